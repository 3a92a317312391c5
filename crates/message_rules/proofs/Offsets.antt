-- The first broken field, answered from the last rule on.
-- Assumes nothing.
use Rattle.std.proofs.Common.{◌≡◌, ℕ, ◌∙◌, ap, sym, refl, not, Bool, true, false, cond, eqb, Option, Some, None}
use Rattle.std.specs.Option.{is_some}
use Rattle.message.specs.Rules.{broken_or}
use Rattle.message.proofs.Cases.{broken_is}
use Rattle.message_rules.specs.Offsets.{offset_told}

-- the answer of one test, and of those behind it
pub told_is : {r behind : Option ℕ} {k t : Bool} (at last : ℕ) → eqb at 0 ≡ false → r ≡ cond k behind (Some at) → k ≡ t → behind ≡ offset_told last → r ≡ offset_told (broken_or t at last)
unfolding broken_or
told_is {k = k} at last some r e rest = r ∙ ap (λ (b : Option ℕ). cond k b (Some at)) rest ∙ by_test k ∙ ap offset_told (broken_is at refl e refl)
  where
    by_test : (k : Bool) → cond k (offset_told last) (Some at) ≡ offset_told (broken_or k at last)
    by_test true = refl
    by_test false = simp some

-- no field is broken where none is told
pub none_told : {g : Bool} {b : Option ℕ} (offset : ℕ) → is_some b ≡ not g → b ≡ offset_told offset → g ≡ eqb offset 0
none_told {g = g} offset asked told = by_offset g (eqb offset 0) (sym (ap is_some told) ∙ asked)
  where
    by_offset : (g e : Bool) → is_some (cond {A = Option ℕ} e None (Some offset)) ≡ not g → g ≡ e
    by_offset true true h = refl
    by_offset false false h = refl
    by_offset true false h = h
    by_offset false true h = h
