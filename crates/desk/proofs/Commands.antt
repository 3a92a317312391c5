-- Laws of the commands: a word that is a name, and a line of a known count of words.
-- Assumes nothing.
use mathlib.Core.Bool.{Bool, true, false, cond}
use mathlib.Core.Path.{◌≡◌, refl, sym, ap, ap₂, ◌∙◌}
use mathlib.Core.List.{List, [], ◌∷◌}
use Prim.Native.Nat.{ℕ}
use lib.Dec.{eqb}
use Rattle.std.proofs.Common.{Option, None}
use borrow.Author.Tests.{eqb-true, eq-eqb, ne_eqb}
use Rattle.desk.specs.Commands.{command_of, is_name}
use Rattle.desk.specs.declared.command.Command.{Command}

cond_left : (x y : Bool) → cond x y false ≡ true → x ≡ true
cond_left true y e = refl
cond_left false y e = e

cond_right : (x y : Bool) → cond x y false ≡ true → y ≡ true
cond_right true y e = e
cond_right false y e = cc

name_same : (a b : List ℕ) → is_name a b ≡ true → a ≡ b
unfolding is_name
name_same [] [] e = refl
name_same [] (b ∷ bs) e = cc
name_same (a ∷ more) [] e = cc
name_same (a ∷ more) (b ∷ bs) e =
    ap₂ ◌∷◌ (eqb-true a b (cond_left (eqb a b) (is_name more bs) e)) (name_same more bs (cond_right (eqb a b) (is_name more bs) e))

name_refl : (a : List ℕ) → is_name a a ≡ true
unfolding is_name
name_refl [] = refl
name_refl (a ∷ more) = ap (λ (t : Bool). cond t (is_name more more) false) (eq-eqb a a refl) ∙ name_refl more

both_ways : (r s : Bool) → (r ≡ true → s ≡ true) → (s ≡ true → r ≡ true) → r ≡ s
both_ways true s f g = sym (f refl)
both_ways false true f g = g refl
both_ways false false f g = refl

pub name_is : (a b : List ℕ) (r : Bool) → (r ≡ true → a ≡ b) → (a ≡ b → r ≡ true) → r ≡ is_name a b
name_is a b r f g = both_ways r (is_name a b) (λ e. ap (λ (l : List ℕ). is_name a l) (sym (f e)) ∙ name_refl a) (λ e. g (name_same a b e))

pub of_count : {n m : ℕ} {u w : List ℕ} {r : Option Command} (k : ℕ) → n ≡ m → n ≡ k → u ≡ w → r ≡ command_of k u → r ≡ command_of m w
of_count k f g h e = cc

pub of_no_count : {n m : ℕ} (w : List ℕ) → n ≡ m → (n ≡ 1 → ⊥) → (n ≡ 2 → ⊥) → (n ≡ 3 → ⊥) → (n ≡ 4 → ⊥) → (n ≡ 7 → ⊥) → None ≡ command_of m w
unfolding command_of
of_no_count {n} w f a b c d e =
    simp (sym f, ne_eqb n 1 a, ne_eqb n 2 b, ne_eqb n 3 c, ne_eqb n 4 d, ne_eqb n 7 e)
