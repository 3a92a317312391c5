-- By the header, field after field.
-- Assumes nothing.
use mathlib.Core.Path.{◌≡◌, ap, ap₂, ◌∙◌, sym}
use mathlib.Core.Bool.{true, false}
use mathlib.Core.List.{List}
use Prim.Native.Nat.{ℕ, ◌+◌, ◌%◌}
use native.Mathlib.Omega.{arith}
use borrow.Author.Tests.{eq-eqb, ne_eqb}
use lib.Dec.{ltb}
use Rattle.packet.specs.Header.{header_in, heartbeat}
use Rattle.packet.specs.declared.header.Header.{Header}
use Rattle.session_keeping.proofs.Passes.{beat_not, by_end, early_not, short_not}
use Rattle.session_keeping.proofs.passing.carries.Goals as goal

-- by its flag no heartbeat
plain : {h : Header} (s : List ℕ) → h ≡ header_in s → (h.flag % 2 ≡ 1 → ⊥) → heartbeat (header_in s).flag ≡ false
plain {h} s e other = ap (λ (g : Header). heartbeat g.flag) (sym e) ∙ ne_eqb (h.flag % 2) 1 other

beats : {h : Header} (s : List ℕ) → h ≡ header_in s → h.flag % 2 ≡ 1 → heartbeat (header_in s).flag ≡ true
beats {h} s e one = ap (λ (g : Header). heartbeat g.flag) (sym e) ∙ eq-eqb (h.flag % 2) 1 one

pub returns-then-packet-lt-HEADER : goal.returns-then-packet-lt-HEADER
returns-then-packet-lt-HEADER c = short_not c.args.next c.args.packet.now c.if-packet-lt-HEADER.true

pub fields-head-requires : goal.fields-head-requires
fields-head-requires c = omega (arith, c.if-packet-lt-HEADER.false)

pub returns-then-head-eq1 : goal.returns-then-head-eq1
returns-then-head-eq1 c = beat_not c.args.next c.args.packet.now (omega (arith, c.if-packet-lt-HEADER.false)) (beats c.args.packet.now c.fields-head.ensures c.if-head-eq1.true)

pub returns-then-next-first : goal.returns-then-next-first
returns-then-next-first c =
    let first = ap (λ (h : Header). h.seq) c.fields-head.ensures in
    early_not c.args.next c.args.packet.now (omega (arith, c.if-packet-lt-HEADER.false)) (plain c.args.packet.now c.fields-head.ensures c.if-head-eq1.false) (omega (arith, first, c.if-next-first.true))

pub returns : goal.returns
returns c =
    let first = ap (λ (h : Header). h.seq) c.fields-head.ensures in
    let many = ap (λ (h : Header). h.messages) c.fields-head.ensures in
    ap₂ (λ (a b : ℕ). ltb c.args.next (a + b)) first many
    ∙ by_end c.args.next c.args.packet.now (omega (arith, c.if-packet-lt-HEADER.false)) (plain c.args.packet.now c.fields-head.ensures c.if-head-eq1.false) (omega (arith, first, c.if-next-first.false))
