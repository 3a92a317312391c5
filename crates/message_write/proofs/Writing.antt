-- Which test decides a writing, and what the buffer then holds: laws over plain values.
-- Assumes nothing.
use mathlib.Core.Path.{◌≡◌, refl, ap, ◌∙◌, sym}
use mathlib.Core.Bool.{Bool, true, false, not}
use mathlib.Core.List.{List, [], ◌∷◌}
use Prim.Native.Nat.{ℕ, ◌+◌, ◌-◌, ◌≤◌, ◌<◌}
use native.Mathlib.Omega.{arith}
use borrow.Author.Tests.{lt-ltb, le-ltb, ltb-false, not-false}
use lib.Dec.{ltb}
use lib.ListN.{length}
use Rattle.wire.specs.Layout.{number_is, encode, put_row, width_of}
use Rattle.wire.specs.Number.{splice}
use Rattle.wire.proofs.Choice.{passed}
use Rattle.wire.proofs.Place.{splice_next}
use Rattle.message.specs.Layouts.{head, layout_of}
use Rattle.message.specs.Row.{row_of, type_of}
use Rattle.message.specs.Rules.{good_message}
use Rattle.message.specs.Table.{payload_of}
use Rattle.message.specs.Types.{type_number}
use Rattle.message.specs.declared.types.Kind.{Kind}
use Rattle.message.proofs.Listed.{some_number}
use Rattle.message_write.specs.Writing.{answer_of, buffer_after, head_row, is_written, message_bytes, message_size, write_of, written_type}
use Rattle.message.specs.declared.kinds.Message.{Message}
use Rattle.std.proofs.Common.{Result, Ok, Err}
use Rattle.refusals.specs.declared.Refusal.{Refusal}
use Rattle.refusals.specs.declared.Refusal.TheVariants.{NoRoom, RuleBroken}
use Rattle.message_write.proofs.Opened.{written_opened}

-- a message is written exactly if its type is told
told_none : (m : Message) → (w : Bool) → is_written m ≡ w → written_type m ≡ 0 → is_written m ≡ false
unfolding written_type
told_none m false h e = h
told_none m true h e =
    let none : type_of m ≡ 0 = rw h at e in
    let some = written_opened m h in
    absurd (omega arith)

told_some : (m : Message) → (w : Bool) → is_written m ≡ w → (written_type m ≡ 0 → ⊥) → (is_written m ≡ true) × (written_type m ≡ type_of m)
unfolding written_type
told_some m false h e = absurd (e (rw h))
told_some m true h e = (h, rw h)

-- no test applies: the count
pub accepts : (m : Message) (n at : ℕ) → is_written m ≡ true → good_message m ≡ true → at + message_size (type_of m) ≤ n → answer_of m n at ≡ Ok (message_size (type_of m))
unfolding answer_of
accepts m n at written good room = simp (written, good, le-ltb n (at + message_size (type_of m)) room)

-- a message that is not written
pub unwritten : (m : Message) (n at : ℕ) → 0 ≡ written_type m → Err RuleBroken ≡ answer_of m n at
unfolding answer_of
unwritten m n at e = simp (told_none m (is_written m) refl (sym e))

module _ (m : Message) (n at : ℕ) (kind : Kind) (told : type_number kind ≡ written_type m) where
  known : (is_written m ≡ true) × (written_type m ≡ type_of m)
  known = told_some m (is_written m) refl (λ e. some_number kind (told ∙ e))

  pub broken : good_message m ≡ false → Err RuleBroken ≡ answer_of m n at
  unfolding answer_of
  broken h = simp (known.0, h)

  module _ (good : good_message m ≡ true) {size : ℕ} (sized : size ≡ message_size (type_number kind)) where
    whole : size ≡ message_size (type_of m)
    whole = sized ∙ ap message_size (told ∙ known.1)

    pub past : n < at → Err NoRoom ≡ answer_of m n at
    unfolding answer_of
    past h = simp (known.0, good, lt-ltb n (at + message_size (type_of m)) (omega arith))

    pub short : at ≤ n → n - at < size → Err NoRoom ≡ answer_of m n at
    unfolding answer_of
    short least h = simp (known.0, good, lt-ltb n (at + message_size (type_of m)) (omega (arith, whole)))

    pub fits : at ≤ n → size ≤ n - at → Ok size ≡ answer_of m n at
    fits least h = ap Ok whole ∙ sym (accepts m n at known.0 good (omega (arith, whole)))

-- what a count says
pub record Counted (m : Message) (n at size : ℕ) : Type 0 where
  pub written : is_written m ≡ true
  pub good : good_message m ≡ true
  pub room : at + size ≤ n
  pub whole : size ≡ message_size (type_of m)
  pub fields : size ≡ 3 + width_of (layout_of (type_of m))
  pub small : size ≤ 128

count-is : (size k : ℕ) → ◌≡◌ {A = Result ℕ Refusal} (Ok size) (Ok k) → k ≡ size
count-is size k e = cc

-- a refusal is no count
refused_other : (r : Refusal) (size : ℕ) → ◌≡◌ {A = Result ℕ Refusal} (Err r) (Ok size) → ⊥
refused_other r size e = let z : ◌≡◌ {A = ℕ} 0 1 = cc in omega arith

pub counted : (m : Message) (n at size : ℕ) → answer_of m n at ≡ Ok size → Counted m n at size
unfolding answer_of message_size
counted m n at size h =
    let d = passed ((not (is_written m), Err RuleBroken) ∷ (not (good_message m), Err RuleBroken) ∷ (ltb n (at + message_size (type_of m)), Err NoRoom) ∷ []) (Ok (message_size (type_of m))) (Ok size) (refused_other RuleBroken size, (refused_other RuleBroken size, (refused_other NoRoom size, tt))) h in
    let written = not-false (is_written m) d.0.0 in
    let o = written_opened m written in
    let e : size ≡ 3 + payload_of (type_of m) = count-is _ _ d.1 in
    let r = ltb-false n (at + message_size (type_of m)) d.0.1.1.0 in
    record { written = written; good = not-false (good_message m) d.0.1.0; room = omega arith; whole = e; fields = omega (arith, o.width); small = omega arith }

-- the buffer: all bytes stay, or the header and the fields are put
pub kept : (m : Message) (buf : List ℕ) (at : ℕ) {r : Refusal} → write_of m buf at ≡ Err r → buf ≡ buffer_after m buf at
unfolding buffer_after
kept m buf at e = rw e

pub taken : (m : Message) (buf : List ℕ) (at : ℕ) {size : ℕ} → write_of m buf at ≡ Ok size → splice buf at (message_bytes m) ≡ buffer_after m buf at
unfolding buffer_after
taken m buf at e = rw e

pub placed : (m : Message) (buf : List ℕ) (at : ℕ) {size kind : ℕ} {t u : List ℕ} → write_of m buf at ≡ Ok size → kind ≡ written_type m → t ≡ put_row head (number_is size ∷ number_is kind ∷ []) buf at → u ≡ put_row (layout_of (type_of m)) (row_of m) t (at + 3) → u ≡ buffer_after m buf at
unfolding put_row message_bytes written_type
placed m buf at {size} {kind} {t} {u} e told d f =
    let c = counted m (length buf) at size e in
    let k : kind ≡ type_of m = told ∙ rw c.written in
    let row = encode (layout_of (type_of m)) (row_of m) in
    f
    ∙ ap (λ (l : List ℕ). splice l (at + 3) row) (d ∙ rw (c.whole, k))
    ∙ splice_next buf at (encode head (head_row (type_of m))) row (omega (arith, c.room))
    ∙ taken m buf at e
