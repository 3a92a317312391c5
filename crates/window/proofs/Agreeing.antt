-- Parts of bytes as a slice lends them: compared, and put at a place.
-- Assumes nothing.
use mathlib.Core.Path.{◌≡◌, refl, ap, ◌∙◌, sym, subst}
use mathlib.Core.Bool.{Bool, true, false, cond, ◌&&◌}
use mathlib.Core.List.{List, [], ◌∷◌}
use Prim.Native.Nat.{ℕ, zero, suc, ◌+◌, ◌-◌, ◌≤◌, ◌<◌}
use native.Mathlib.Omega.{arith}
use borrow.Rule.Slice.PartMut.{put_mid}
use borrow.Author.Tests.{eq-eqb, eqb-false, eqb-true, ne_eqb}
use lib.Dec.{eqb}
use lib.ListN.{drop, get_or, length, take}
use lib.Pointwise.{pointwise}
use Rattle.wire.specs.Number.{part, splice}
use Rattle.wire.proofs.Parts.{part_long}
use Rattle.wire.proofs.Place.{part-is}
use Rattle.wire.proofs.Splice.{replaced}
use Rattle.window.specs.Window.{agreeing}

-- the part of a packet that is lent is the message
pub lent : (s : List ℕ) (at size : ℕ) → at + size ≤ length s → take (at + size - at) (drop at s) ≡ part s at size
lent s at size h =
    let e : at + size - at ≡ size = omega arith in
    rw e (sym (part-is s at size h))

one_more : (a b : ℕ) → eqb (suc a) (suc b) ≡ eqb a b
one_more a b = go (eqb a b) refl
  where
    go : (c : Bool) → eqb a b ≡ c → eqb (suc a) (suc b) ≡ eqb a b
    go true e = eq-eqb (suc a) (suc b) (ap suc (eqb-true a b e)) ∙ sym e
    go false e = ne_eqb (suc a) (suc b) (λ h. eqb-false a b e (omega (arith, h))) ∙ sym e

-- lists of one length are equal where all of the bytes agree
all_agree : (xs ys : List ℕ) → length xs ≡ length ys → pointwise eqb xs ys ≡ eqb (agreeing xs ys) (length ys)
unfolding agreeing
all_agree [] [] h = refl
all_agree [] (y ∷ ys) h = absurd (omega (arith, h))
all_agree (x ∷ xs) [] h = absurd (omega (arith, h))
all_agree (x ∷ xs) (y ∷ ys) h = go (eqb x y) (all_agree xs ys (omega (arith, h)))
  where
    go : (b : Bool) → pointwise eqb xs ys ≡ eqb (agreeing xs ys) (length ys) → (b && pointwise eqb xs ys) ≡ eqb (cond b (suc (agreeing xs ys)) 0) (suc (length ys))
    go true rest = rest ∙ sym (one_more (agreeing xs ys) (length ys))
    go false rest = sym (ne_eqb 0 (suc (length ys)) (λ e. omega (arith, e)))

-- all bytes of what is lent agree
pub all_lent : (w : List ℕ) (start : ℕ) (m : List ℕ) → start + length m ≤ length w → pointwise eqb (take (start + length m - start) (drop start w)) m ≡ true → length m ≡ agreeing (part w start (length m)) m
all_lent w start m within same =
    sym (eqb-true (agreeing (part w start (length m)) m) (length m)
    (sym (ap (λ (l : List ℕ). pointwise eqb l m) (lent w start (length m) within) ∙ all_agree (part w start (length m)) m (part_long w start (length m))) ∙ same))

-- where two lists differ, none agrees from there on; and else one more than behind it
pub differs_here : (xs ys : List ℕ) (k : ℕ) → k < length xs → k < length ys → (get_or xs k 0 ≡ get_or ys k 0 → ⊥) → agreeing (drop k xs) (drop k ys) ≡ 0
unfolding agreeing
differs_here [] ys k l h d = absurd (omega (arith, l))
differs_here (x ∷ xs) [] k l h d = absurd (omega (arith, h))
differs_here (x ∷ xs) (y ∷ ys) zero l h d = ap (λ b. cond b (suc (agreeing xs ys)) 0) (ne_eqb x y d)
differs_here (x ∷ xs) (y ∷ ys) (suc k) l h d = differs_here xs ys k (omega (arith, l)) (omega (arith, h)) d

agrees_here : (xs ys : List ℕ) (k : ℕ) → k < length xs → k < length ys → get_or xs k 0 ≡ get_or ys k 0 → agreeing (drop k xs) (drop k ys) ≡ suc (agreeing (drop (suc k) xs) (drop (suc k) ys))
unfolding agreeing
agrees_here [] ys k l h e = absurd (omega (arith, l))
agrees_here (x ∷ xs) [] k l h e = absurd (omega (arith, h))
agrees_here (x ∷ xs) (y ∷ ys) zero l h e = ap (λ b. cond b (suc (agreeing xs ys)) 0) (eq-eqb x y e)
agrees_here (x ∷ xs) (y ∷ ys) (suc k) l h e = agrees_here xs ys k (omega (arith, l)) (omega (arith, h)) e

-- the same by the next place
pub agrees_next : (xs ys : List ℕ) (k : ℕ) → k < length xs → k < length ys → get_or xs k 0 ≡ get_or ys k 0 → agreeing (drop k xs) (drop k ys) ≡ suc (agreeing (drop (k + 1) xs) (drop (k + 1) ys))
agrees_next xs ys k l h e =
    let s : k + 1 ≡ suc k = omega arith in
    rw s (agrees_here xs ys k l h e)

-- behind the last byte there is none
pub none_behind : (xs ys : List ℕ) → agreeing (drop (length ys) xs) (drop (length ys) ys) ≡ 0
unfolding agreeing
none_behind xs [] = none_with xs
  where
    none_with : (l : List ℕ) → agreeing l [] ≡ 0
    none_with [] = refl
    none_with (x ∷ l) = refl
none_behind [] (y ∷ ys) = none_of (drop (length ys) ys)
  where
    none_of : (l : List ℕ) → agreeing [] l ≡ 0
    none_of [] = refl
    none_of (x ∷ l) = refl
none_behind (x ∷ xs) (y ∷ ys) = none_behind xs ys

-- bytes put over as many of them
pub put_over : (w : List ℕ) (start : ℕ) (bs new : List ℕ) {size : ℕ} → length bs ≡ size → new ≡ bs → put_mid start (start + size - start) w new ≡ splice w start bs
put_over w start bs new long is = subst (λ (n : ℕ). put_mid start (start + n - start) w new ≡ splice w start bs) long (replaced w start bs new is)
