-- A message that breaks no rule keeps each: one law over the rows of rules.
-- Assumes nothing.
use mathlib.Core.Path.{◌≡◌, refl, subst}
use mathlib.Core.Bool.{Bool, true, false, cond}
use mathlib.Core.List.{List, [], ◌∷◌}
use Prim.Native.Nat.{ℕ}
use borrow.Author.Tests.{eq-eqb, eqb-true}
use lib.Dec.{T, eqb}
use Rattle.message.specs.Rules.{FieldRule, broken_by, broken_or, first_broken, rules_of}

-- every test is passed
abbrev pub AllKept : List Bool → Type 0
AllKept [] = Unit {0}
AllKept (k ∷ kept) = (k ≡ true) × AllKept kept

-- as many tests as rules, and no rule at offset 0, which says that none is broken
abbrev pub suits : List FieldRule → List Bool → Bool
suits [] [] = true
suits [] (k ∷ kept) = false
suits (rule ∷ rest) [] = false
suits (rule ∷ rest) (k ∷ kept) = cond (eqb rule.0 0) false (suits rest kept)

others : (b more : Bool) → T (cond b false more) → T more
others true more h = absurd h
others false more h = h

not_first : (b more : Bool) → b ≡ true → T (cond b false more) → ⊥
not_first b more e h = subst (λ (x : Bool). T (cond x false more)) e h

none_left : (rows : List FieldRule) (kept : List Bool) → T (suits rows kept) → first_broken rows kept ≡ 0 → AllKept kept
unfolding broken_or
none_left [] [] h e = tt
none_left [] (k ∷ kept) h e = absurd h
none_left (rule ∷ rest) [] h e = absurd h
none_left (rule ∷ rest) (true ∷ kept) h e = (refl, none_left rest kept (others (eqb rule.0 0) (suits rest kept) h) e)
none_left (rule ∷ rest) (false ∷ kept) h e = absurd (not_first (eqb rule.0 0) (suits rest kept) (eq-eqb rule.0 0 e) h)

pub all_kept : (type : ℕ) (kept : List Bool) → T (suits (rules_of type) kept) → eqb (broken_by type kept) 0 ≡ true → AllKept kept
all_kept type kept h e = none_left (rules_of type) kept h (eqb-true (broken_by type kept) 0 e)
