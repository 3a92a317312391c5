-- The size of what waits, as an answer: none for 0, and what the answer says.
-- Assumes nothing.
use Rattle.std.specs.Prelude.{Option, Some, None}
use Rattle.std.specs.Option.{is_some}
use mathlib.Core.Path.{◌≡◌, refl, ap, ◌∙◌, sym}
use mathlib.Core.Bool.{Bool, true, false, cond, not, true≢false}
use Prim.Native.Nat.{ℕ}
use native.Mathlib.Omega.{arith}
use borrow.Author.Tests.{eq-eqb, eqb-true, ne_eqb}
use lib.Dec.{eqb}
use Rattle.window.specs.Window.{some_size}

pub size_none : {n size : ℕ} → size ≡ n → size ≡ 0 → None ≡ some_size n
size_none e nought = ap some_size (sym nought ∙ e)

pub size_some : {n size : ℕ} → size ≡ n → (size ≡ 0 → ⊥) → Some size ≡ some_size n
size_some {n} {size} e some = sym (ap (λ (b : Bool). cond b None (Some size)) (ne_eqb size 0 some)) ∙ ap some_size e

-- the size in an answer, 0 for none
abbrev or_nought : Option ℕ → ℕ
or_nought None = 0
or_nought (Some size) = size

or_nought_of : (n : ℕ) → or_nought (some_size n) ≡ n
or_nought_of n = go (eqb n 0) refl
  where
    go : (b : Bool) → eqb n 0 ≡ b → or_nought (cond b None (Some n)) ≡ n
    go true e = sym (eqb-true n 0 e)
    go false e = refl

pub none_told : (n : ℕ) → None ≡ some_size n → 0 ≡ n
none_told n e = ap or_nought e ∙ or_nought_of n

pub some_told : (n : ℕ) {size : ℕ} → Some size ≡ some_size n → size ≡ n
some_told n e = ap or_nought e ∙ or_nought_of n

abbrev counted : Option ℕ → ℕ
counted None = 0
counted (Some size) = 1

pub some_there : (n : ℕ) {size : ℕ} → Some size ≡ some_size n → size ≡ 0 → ⊥
some_there n e nought =
    let told : None ≡ some_size n = size_none (some_told n e) nought in
    omega (arith, ap counted (e ∙ sym told))

-- whether one is there
module _ (n : ℕ) {o : Option ℕ} (told : o ≡ some_size n) {there : Bool} (is : there ≡ is_some o) where
  pub by_size : there ≡ not (eqb n 0)
  by_size = is ∙ ap is_some told ∙ go (eqb n 0)
    where
      go : (b : Bool) → is_some (cond b None (Some n)) ≡ not b
      go true = refl
      go false = refl

  pub used_by : there ≡ true → n ≡ 0 → ⊥
  used_by e nought = absurd (true≢false (sym e ∙ by_size ∙ ap not (eq-eqb n 0 nought)))

  pub free_by : there ≡ false → n ≡ 0
  free_by e = go (eqb n 0) refl
    where
      go : (b : Bool) → eqb n 0 ≡ b → n ≡ 0
      go true h = eqb-true n 0 h
      go false h = absurd (true≢false (sym (ap not h) ∙ sym by_size ∙ e))
