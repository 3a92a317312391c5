-- The one dispatch on a message's type: what each arm knows of it.
-- Assumes nothing.
use mathlib.Core.Path.{◌≡◌, ap, ap₂, ◌∙◌, sym, subst}
use mathlib.Core.Bool.{Bool, true, false, ◌&&◌}
use mathlib.Core.List.{List}
use mathlib.Core.Logic.{◌⊎◌, ⊎_elim}
use Prim.Native.Nat.{ℕ, ◌≤◌, ◌<◌}
use native.Mathlib.Omega.{arith}
use borrow.Author.Tests.{le-leb, lt-leb}
use lib.Dec.{leb}
use Rattle.message.specs.Layouts.{type_in}
use Rattle.book.specs.Applying.{names}

module _ (s : List ℕ) {kind : ℕ} (read : kind ≡ type_in s) where
  pub of_kind : {k : ℕ} → kind ≡ k → type_in s ≡ k
  of_kind h = sym read ∙ h

  -- 22 to 25
  pub naming_kind : (kind ≡ 21 → ⊥) → 21 ≤ kind → kind < 26 → names (type_in s) ≡ true
  naming_kind other low high =
      subst (λ (k : ℕ). names k ≡ true) read (ap₂ ◌&&◌ (le-leb 22 kind (omega arith)) (le-leb kind 25 (omega arith)))

  -- below 21 or above 25
  pub telling_kind : (kind < 21) ⊎ ((21 ≤ kind) × (26 ≤ kind)) → (leb 21 (type_in s) && leb (type_in s) 25) ≡ false
  telling_kind came =
      subst (λ (k : ℕ). (leb 21 k && leb k 25) ≡ false) read
      (⊎_elim
      (λ low. ap (λ (b : Bool). b && leb kind 25) (lt-leb 21 kind low))
      (λ high. ap₂ ◌&&◌ (le-leb 21 kind high.0) (lt-leb kind 25 (omega (arith, high.1))))
      came)
