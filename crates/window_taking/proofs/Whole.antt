-- A message that the walk passes is a whole message, as applying asks.
-- Assumes nothing.
use mathlib.Core.Path.{◌≡◌, ap, ◌∙◌, sym, subst}
use mathlib.Core.Bool.{false}
use mathlib.Core.List.{List}
use Prim.Native.Nat.{ℕ, ◌+◌, ◌≤◌, ◌<◌}
use native.Mathlib.Nat.{add-zero}
use native.Mathlib.Omega.{arith}
use lib.ListN.{length, get_or, drop}
use lib.Seq.{get_or-take, get_or-drop}
use Rattle.wire.specs.Number.{part}
use Rattle.wire.proofs.Place.{length_part, part-is}
use Rattle.message.specs.Layouts.{size_in, type_in}
use Rattle.message.specs.Table.{too_short}
use Rattle.packet.specs.Walk.{size_at, step_at, type_at}
use Rattle.packet.proofs.Walking.{Lies, step_size, step_within}
use Rattle.message.specs.Whole.{Whole}

module _ (s : List ℕ) (at n : ℕ) (within : at + n ≤ length s) where
  byte : (k : ℕ) → k < n → get_or (part s at n) k 0 ≡ get_or s (at + k) 0
  byte k h = rw (part-is s at n within) (get_or-take n (drop at s) k 0 h ∙ get_or-drop at s k 0)

  first : 0 < n → get_or (part s at n) 0 0 ≡ get_or s at 0
  first h = byte 0 h ∙ ap (λ (k : ℕ). get_or s k 0) (add-zero at)

  size_part : 3 ≤ n → size_in (part s at n) ≡ size_at s at
  size_part h = omega (arith, first (omega arith), byte 1 (omega arith))

  type_part : 3 ≤ n → type_in (part s at n) ≡ type_at s at
  type_part h = omega (arith, byte 2 (omega arith))

pub whole_part : (s : List ℕ) (at : ℕ) {size : ℕ} → size ≡ step_at s at → (size ≡ 0 → ⊥) → Whole (part s at size)
whole_part s at {size} told some =
    let l : Lies s at size = step_within s at size told some in
    let long : length (part s at size) ≡ size = length_part s at size l.within in
    record {
      least = omega (arith, l.least);
      most = omega (arith, l.most);
      told = size_part s at size l.within l.least ∙ sym (step_size s at size told some).1 ∙ sym long;
      enough = subst (λ (n : ℕ). too_short (type_in (part s at size)) n ≡ false) (sym long) (subst (λ (k : ℕ). too_short k size ≡ false) (sym (type_part s at size l.within l.least)) l.enough);
    }
