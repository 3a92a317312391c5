-- The last number below n at which f is v, by what it is: f is v there, and nowhere from it on.
-- Assumes nothing.
use mathlib.Core.Path.{◌≡◌, refl}
use mathlib.Core.Logic.{◌≢◌}
use mathlib.Core.Bool.{Bool, true, false, cond}
use Prim.Native.Nat.{ℕ, zero, suc, ◌-◌, ◌≤◌, ◌<◌}
use native.Mathlib.Omega.{arith}
use borrow.Author.Tests.{eqb-true, eqb-false, ltb-true, ltb-false}
use lib.Dec.{eqb, ltb}
use Rattle.book_index.specs.Chains.{below}

module _ {A : Type 0} (P : A → Type 0) where
  pub pick : (b : Bool) {x y : A} → (b ≡ true → P x) → (b ≡ false → P y) → P (cond b x y)
  pick true f g = f refl
  pick false f g = g refl

pub split : (m n : ℕ) {P : Type 0} → (m ≡ n → P) → (m ≢ n → P) → P
split m n {P} f g = by (eqb m n) refl
  where
    by : (b : Bool) → eqb m n ≡ b → P
    by true e = f (eqb-true m n e)
    by false e = g (eqb-false m n e)

pub order : (m n : ℕ) {P : Type 0} → (m < n → P) → (n ≤ m → P) → P
order m n {P} f g = by (ltb m n) refl
  where
    by : (b : Bool) → ltb m n ≡ b → P
    by true e = f (ltb-true m n e)
    by false e = g (ltb-false m n e)

pub record Highest (f : ℕ → ℕ) (v n r : ℕ) : Type 0 where
  pub most : r ≤ n
  pub there : 0 < r → f (r - 1) ≡ v
  pub free : (p : ℕ) → r ≤ p → p < n → f p ≢ v

module _ (f : ℕ → ℕ) (v : ℕ) where
  here : (n : ℕ) → f n ≡ v → Highest f v (suc n) (suc n)
  here n e =
      let back : suc n - 1 ≡ n = omega arith in
      record { most = omega arith; there = λ h. rw back e; free = λ p l h. absurd (omega arith) }

  on : (n r : ℕ) → f n ≢ v → Highest f v n r → Highest f v (suc n) r
  on n r e h =
      let most : r ≤ n = h.most in
      record {
        most = omega arith;
        there = h.there;
        free = λ p l q. split p n (λ z. rw z e) (λ z. h.free p l (omega arith));
      }

  pub highest : (n : ℕ) → Highest f v n (below f v n)
  unfolding below
  highest zero = record { most = omega arith; there = λ h. absurd (omega arith); free = λ p l h. absurd (omega arith) }
  highest (suc n) =
      pick (Highest f v (suc n)) (eqb (f n) v)
      (λ e. here n (eqb-true (f n) v e))
      (λ e. on n (below f v n) (eqb-false (f n) v e) (highest n))

  above : (n r s : ℕ) → Highest f v n r → Highest f v n s → r < s → ⊥
  above n r s h k l =
      let most : s ≤ n = k.most in
      h.free (s - 1) (omega arith) (omega arith) (k.there (omega arith))

  -- there is only one
  pub only : {n r : ℕ} → Highest f v n r → below f v n ≡ r
  only {n} {r} h =
      let low = above n r (below f v n) h (highest n) in
      let high = above n (below f v n) r (highest n) h in
      omega arith

pub below-same : (f g : ℕ → ℕ) (v n : ℕ) → ((p : ℕ) → p < n → f p ≡ g p) → below f v n ≡ below g v n
unfolding below
below-same f g v zero h = refl
below-same f g v (suc n) h = simp (h n (omega arith), below-same f g v n (λ p l. h p (omega arith)))
