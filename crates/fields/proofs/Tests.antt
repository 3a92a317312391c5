-- Laws of the tests that the rules are made of.
use Rattle.std.proofs.Common.{◌≡◌, ℕ, zero, suc, ◌<◌, ◌≤◌, Bool, true, false, ◌&&◌, leb, List, get_or, take, sym, refl, ap, ◌∙◌, ap₂, ⊎_elim, le_of_suc-le-suc, not-suc-le-zero, eq-or-lt_of_le, get_or-take, leb-true}
use mathlib.Core.Bool.{and-false}
use native.Mathlib.Numerals.{add-one}
use native.Mathlib.Omega.{arith}
use lib.ListN.{length}
use lib.Seq.{take_all}
use Rattle.std.specs.List.{list_all}
use Rattle.std.proofs.lemmas.List.Folds.{list_all_more}
use native.Mathlib.Nat.{le_of_suc-le}
use Rattle.fields.specs.Tests.{between, first_all}

pub and_left : (a b : Bool) → (a && b) ≡ true → a ≡ true
and_left true b e = refl
and_left false b e = e

pub and_right : (a b : Bool) → (a && b) ≡ true → b ≡ true
and_right true b e = e
and_right false b e = cc

pub in_range : (low high x : ℕ) → between low high x ≡ true → (low ≤ x) × (x ≤ high)
unfolding between
in_range low high x e =
    (leb-true low x (and_left (leb low x) (leb x high) e), leb-true x high (and_right (leb low x) (leb x high) e))

module _ (test : ℕ → Bool) (bytes : List ℕ) where
  pub all_more : (k : ℕ) → first_all test k bytes ≡ true → test (get_or bytes k 0) ≡ true → first_all test (suc k) bytes ≡ true
  unfolding first_all
  all_more k before here = ap₂ ◌&&◌ before here

  pub all-before : (k : ℕ) → first_all test (suc k) bytes ≡ true → first_all test k bytes ≡ true
  unfolding first_all
  all-before k e = and_left (first_all test k bytes) (test (get_or bytes k 0)) e

  pub all_last : (k : ℕ) → first_all test (suc k) bytes ≡ true → test (get_or bytes k 0) ≡ true
  unfolding first_all
  all_last k e = and_right (first_all test k bytes) (test (get_or bytes k 0)) e

  -- what fails the first k fails every longer row
  pub all_longer : (k n : ℕ) → k ≤ n → first_all test k bytes ≡ false → first_all test n bytes ≡ false
  unfolding first_all
  all_longer k zero h e =
      ⊎_elim
      (λ same. ap (λ (j : ℕ). first_all test j bytes) (sym same) ∙ e)
      (λ lt. absurd (not-suc-le-zero lt))
      (eq-or-lt_of_le h)
  all_longer k (suc n) h e =
      ⊎_elim
      (λ same. ap (λ (j : ℕ). first_all test j bytes) (sym same) ∙ e)
      (λ lt. ap (λ (b : Bool). b && test (get_or bytes n 0)) (all_longer k n (le_of_suc-le-suc lt) e))
      (eq-or-lt_of_le h)

  -- one byte that fails fails them all
  pub all_fail : (k n : ℕ) → k < n → test (get_or bytes k 0) ≡ false → first_all test n bytes ≡ false
  unfolding first_all
  all_fail k n h e = all_longer (suc k) n h (ap (λ (b : Bool). first_all test k bytes && b) e ∙ and-false (first_all test k bytes))

  -- the bytes all pass exactly where the first of them do, as many as there are
  all_first : (k : ℕ) → k ≤ length bytes → first_all test k bytes ≡ list_all test (take k bytes)
  unfolding first_all
  all_first zero h = refl
  all_first (suc k) h =
      rw (← add-one k, list_all_more test bytes k 0 h) (ap (λ (b : Bool). b && test (get_or bytes k 0)) (all_first k (le_of_suc-le h)))

  pub all_listed : (k : ℕ) → length bytes ≡ k → first_all test k bytes ≡ list_all test bytes
  all_listed k e = all_first k (omega arith) ∙ ap (list_all test) (take_all k bytes (omega arith))

  -- no byte past the first k counts
  pub all_take : (k n : ℕ) → k ≤ n → first_all test k (take n bytes) ≡ first_all test k bytes
  unfolding first_all
  all_take zero n h = refl
  all_take (suc k) n h = ap₂ ◌&&◌ (all_take k n (le_of_suc-le h)) (ap test (get_or-take n bytes k 0 h))
