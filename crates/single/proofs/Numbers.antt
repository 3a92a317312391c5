-- What is told of an answer, law by law.
-- Assumes nothing.
use Rattle.std.proofs.Common.{◌≡◌, ℕ, suc, List, [], ◌∷◌, ◌++◌, length, set, refl, ap, sym, ◌∙◌, arith, append_assoc, Result, Ok, Err, MatchResult, IsOkAnd}
use Rattle.refusals.specs.Refusals.{refusal_in}
use Rattle.refusals.specs.declared.Refusal.{Refusal}
use Rattle.single.specs.Over.{over, over_from}
use Rattle.single.specs.Told.{numbers_or, told_by}

set_behind : (pre more : List ℕ) (o n : ℕ) → set (pre ++ (o ∷ more)) (length pre) n ≡ (pre ++ (n ∷ [])) ++ more
set_behind [] more o n = refl
set_behind (p ∷ pre) more o n = ap (λ (l : List ℕ). p ∷ l) (set_behind pre more o n)

one_longer : (pre : List ℕ) (n : ℕ) → length (pre ++ (n ∷ [])) ≡ suc (length pre)
one_longer [] n = refl
one_longer (p ∷ pre) n = ap suc (one_longer pre n)

over_behind : (pre ns old : List ℕ) → length ns ≡ length old → over_from (length pre) ns (pre ++ old) ≡ pre ++ ns
over_behind pre [] [] e = refl
over_behind pre [] (o ∷ old) e = absurd (omega (arith, e))
over_behind pre (n ∷ ns) [] e = absurd (omega (arith, e))
over_behind pre (n ∷ ns) (o ∷ old) e =
    ap (over_from (suc (length pre)) ns) (set_behind pre old o n)
    ∙ ap (λ (k : ℕ). over_from k ns ((pre ++ (n ∷ [])) ++ old)) (sym (one_longer pre n))
    ∙ over_behind (pre ++ (n ∷ [])) ns old (omega (arith, e))
    ∙ append_assoc pre (n ∷ []) ns

-- as many numbers as were lent stand for all of them
pub over_whole : (ns old : List ℕ) → length ns ≡ length old → over ns old ≡ ns
over_whole ns old e = over_behind [] ns old e

-- the numbers of an answer as `map` makes them: what is told of it, and its refusal
module _ {A : Type 0} (numbers : A → List ℕ) where
  told_all : (r : Result A Refusal) (m : Result (List ℕ) Refusal) (old : List ℕ) → ((a : A) → length (numbers a) ≡ length old) → MatchResult r (λ a. IsOkAnd m (λ l. l ≡ numbers a)) (λ e. m ≡ Err e)
      → (refusal_in m ≡ refusal_in r) × (numbers_or m old ≡ told_by numbers r old)
  told_all (Ok a) (Ok l) old long is = (refl, is ∙ sym (over_whole (numbers a) old (long a)))
  told_all (Ok a) (Err e) old long is = absurd is
  told_all (Err e) m old long is = (ap (λ (x : Result (List ℕ) Refusal). refusal_in x) is, ap (λ (x : Result (List ℕ) Refusal). numbers_or x old) is)

  pub tells : (m : Result (List ℕ) Refusal) (old : List ℕ) {r answer : Result A Refusal} {after : List ℕ} {n : ℕ} → r ≡ answer → ((a : A) → length (numbers a) ≡ length old) → MatchResult r (λ a. IsOkAnd m (λ l. l ≡ numbers a)) (λ e. m ≡ Err e)
      → n ≡ refusal_in m → after ≡ numbers_or m old → (n ≡ refusal_in answer) × (after ≡ told_by numbers answer old)
  tells m old {r = r} {answer = answer} e long is refusal told =
      let all = told_all r m old long is in
      (refusal ∙ all.0 ∙ ap (λ (x : Result A Refusal). refusal_in x) e, told ∙ all.1 ∙ ap (λ (x : Result A Refusal). told_by numbers x old) e)
