-- A message at hand by its type: an Add's order, or what its act comes to.
-- Assumes nothing.
use mathlib.Core.Path.{◌≡◌, ◌∙◌, sym, subst}
use mathlib.Core.List.{List}
use Prim.Native.Nat.{ℕ}
use native.Mathlib.Omega.{arith}
use Rattle.message.specs.Layouts.{type_in}
use Rattle.message.specs.Whole.{Whole}
use Rattle.book.specs.Applying.{Naming}
use Rattle.session.proofs.Dispatch.{of_kind}
use Rattle.session.proofs.Engine.{asks, named, names_one, puts, settled_nothing, settled_put, settled_remove, settled_replace}
use Rattle.session.proofs.settling.settle.Goals as goal

-- a message that names an order
other : (s : List ℕ) {kind : ℕ} → kind ≡ type_in s → (kind ≡ 21 → ⊥) → type_in s ≡ 21 → ⊥
other s read out e = out (read ∙ e)

pub message-bytes-requires : goal.message-bytes-requires
message-bytes-requires c = let h = c.requires.5.waits in record { size_in_bounds = h.cut; lies = h.lies }

pub number_at-requires : goal.number_at-requires
number_at-requires c = omega (arith, (subst Whole (sym c.message-bytes.ensures) c.requires.5.waits.whole).least)

-- ---- an Add

pub order_of-requires : goal.order_of-requires
order_of-requires c =
    subst (λ (l : List ℕ). Naming 55 l c.args.hand.name.key) (sym c.message-bytes.ensures)
    (puts c.requires.5 c.message-bytes.ensures (of_kind c.message-bytes.result.now c.number_at.ensures (c.if-number_at-number.true ∙ c.number.ensures))).naming

pub returns-then-number_at-number : goal.returns-then-number_at-number
returns-then-number_at-number c t single os window answers h =
    settled_put h c.message-bytes.ensures (of_kind c.message-bytes.result.now c.number_at.ensures (c.if-number_at-number.true ∙ c.number.ensures)) c.order_of.ensures

-- ---- a message that names an order

pub change-requires : goal.change-requires
change-requires c =
    let t = c.requires.0 in
    let h = c.requires.5 in
    let is = c.message-bytes.ensures in
    let out = other c.message-bytes.result.now c.number_at.ensures (λ e. c.if-number_at-number.false (e ∙ sym c.number.ensures)) in
    record { bytes_value = names_one h is out; by_index = (t.next, t.end, (named h is out).tables, asks h is out) }

pub returns-in-Replace : goal.returns-in-Replace
returns-in-Replace c t single os window answers h =
    let is = c.message-bytes.ensures in
    let out = other c.message-bytes.result.now c.number_at.ensures (λ e. c.if-number_at-number.false (e ∙ sym c.number.ensures)) in
    settled_replace h is out (c.change.ensures t.next t.end (named h is out).tables (asks h is out)) c.in-Replace.is

pub returns-in-Remove : goal.returns-in-Remove
returns-in-Remove c t single os window answers h =
    let is = c.message-bytes.ensures in
    let out = other c.message-bytes.result.now c.number_at.ensures (λ e. c.if-number_at-number.false (e ∙ sym c.number.ensures)) in
    settled_remove h is out (c.change.ensures t.next t.end (named h is out).tables (asks h is out)) c.in-Remove.is

pub returns-in-Nothing : goal.returns-in-Nothing
returns-in-Nothing c t single os window answers h =
    let is = c.message-bytes.ensures in
    let out = other c.message-bytes.result.now c.number_at.ensures (λ e. c.if-number_at-number.false (e ∙ sym c.number.ensures)) in
    settled_nothing h is out (c.change.ensures t.next t.end (named h is out).tables (asks h is out)) c.in-Nothing.is

pub overflow_sub-point : goal.overflow_sub-point
overflow_sub-point c =
    let out = other c.message-bytes.result.now c.number_at.ensures (λ e. c.if-number_at-number.false (e ∙ sym c.number.ensures)) in
    omega (arith, (named c.requires.5 c.message-bytes.ensures out).behind)
