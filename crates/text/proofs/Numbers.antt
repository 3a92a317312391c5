-- A digit more: the number goes on, or the word is no number.
-- Assumes nothing.
use mathlib.Core.Path.{◌≡◌, refl, sym}
use mathlib.Core.List.{List, [], ◌∷◌}
use Prim.Native.Nat.{ℕ, ◌+◌, ◌*◌, ◌≤◌, ◌<◌}
use native.Mathlib.Numerals.{add-one}
use native.Mathlib.Omega.{arith}
use borrow.Author.Tests.{lt-ltb, le-ltb, le-leb, lt-leb}
use lib.ListN.{length, get_or, drop, drop_of_length-le}
use lib.Seq.{drop-cons}
use Rattle.std.proofs.Common.{None, Some}
use Rattle.text.specs.Numbers.{digit_of, number_from, number_of, Number}

module _ (limit n : ℕ) (s : List ℕ) (k : ℕ) (there : k < length s) (d : ℕ) (is-d : d ≡ digit_of (get_or s k 0)) where
  pub goes_on : d < 10 → n * 10 + d ≤ limit → number_from limit n (drop k s) ≡ number_from limit (n * 10 + d) (drop (k + 1) s)
  unfolding number_from
  goes_on small fits = rw (add-one, drop-cons s k 0 there, is-d) (simp (lt-ltb _ _ (rw is-d at small), le-leb _ _ (rw is-d at fits)))

  pub no_digit : 10 ≤ d → number_from limit n (drop k s) ≡ None
  unfolding number_from
  no_digit large = rw (drop-cons s k 0 there) (simp (le-ltb _ _ (rw is-d at large)))

  pub too_large : d < 10 → limit < n * 10 + d → number_from limit n (drop k s) ≡ None
  unfolding number_from
  too_large small past = rw (drop-cons s k 0 there) (simp (lt-ltb _ _ (rw is-d at small), lt-leb _ _ (rw is-d at past)))

pub at_end : (limit n : ℕ) (s : List ℕ) (k : ℕ) → length s ≤ k → number_from limit n (drop k s) ≡ Some n
unfolding number_from
at_end limit n s k h = rw (drop_of_length-le s h)

pub at_start_lem : (limit : ℕ) (s : List ℕ) → 0 < length s → number_from limit 0 (drop 0 s) ≡ number_of limit s
unfolding number_of
at_start_lem limit [] h = absurd (omega arith)
at_start_lem limit (c ∷ cs) h = refl

pub no_word : (limit : ℕ) (s : List ℕ) → length s ≡ 0 → number_of limit s ≡ None
unfolding number_of
no_word limit [] h = refl
no_word limit (c ∷ cs) h = absurd (omega arith)

-- the answer where a word is no number
pub is_none : (limit : ℕ) (s : List ℕ) → number_of limit s ≡ None → Number limit s None
is_none limit s n = record { is = sym n; within = tt }
