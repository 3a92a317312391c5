-- The window as its places: each lies where its number says, and putting at one changes no other.
-- Assumes nothing.
use mathlib.Core.Path.{◌≡◌, refl, ap, ◌∙◌, sym, subst}
use mathlib.Core.Bool.{cond}
use mathlib.Core.List.{List, [], ◌∷◌, ◌++◌, append_assoc}
use mathlib.Core.Option.{Option, none, some}
use Prim.Native.Nat.{ℕ, zero, suc, ◌+◌, ◌-◌, ◌*◌, ◌≤◌, ◌<◌}
use native.Mathlib.Nat.{add-zero}
use native.Mathlib.Omega.{arith}
use borrow.Author.Tests.{eq-eqb, ne_eqb}
use lib.Dec.{eqb}
use lib.ListN.{length, take, drop, replicate, length-append, length-replicate, drop_of_length-le}
use lib.Seq.{take_at, drop_at, drop-append-le, take-append-le, drop-drop}
use Rattle.wire.specs.Number.{num, part, splice}
use Rattle.wire.proofs.Place.{part-is}
use Rattle.window.specs.Window.{place_of, places_from, size_at, start_of, waits_at, window_of, zeros}

-- what waits at a place is a message that says its own size, of 3 to 128 bytes
pub record Framed (m : List ℕ) : Type 0 where
  pub least : 3 ≤ length m
  pub most : length m ≤ 128
  pub told : num (part m 0 2) ≡ length m

abbrev pub Fine : Option (List ℕ) → Type 0
Fine none = Unit {0}
Fine (some m) = Framed m

length-zeros : (n : ℕ) → length (zeros n) ≡ n
unfolding zeros
length-zeros n = length-replicate n 0

pub length_place : (o : Option (List ℕ)) → Fine o → length (place_of o) ≡ 128
unfolding place_of
length_place none f = length-zeros 128
length_place (some m) f = length-append m (zeros (128 - length m)) ∙ omega (arith, length-zeros (128 - length m), f.most)

module _ (waits : ℕ → Option (List ℕ)) (fine : (i : ℕ) → Fine (waits i)) where
  length-places : (p n : ℕ) → length (places_from waits p n) ≡ n * 128
  unfolding places_from
  length-places p zero = refl
  length-places p (suc n) =
      length-append (place_of (waits p)) (places_from waits (suc p) n)
      ∙ omega (arith, length_place (waits p) (fine p), length-places (suc p) n)

-- the places up to one, it, and those behind it
split : (waits : ℕ → Option (List ℕ)) (p j n : ℕ) → places_from waits p (j + suc n) ≡ places_from waits p j ++ (place_of (waits (p + j)) ++ places_from waits (suc (p + j)) n)
unfolding places_from
split waits p zero n =
    let e : 0 + suc n ≡ suc n = omega arith in
    rw (e, add-zero p)
split waits p (suc j) n =
    let e : suc j + suc n ≡ suc (j + suc n) = omega arith in
    let f : suc p + j ≡ p + suc j = omega arith in
    let more : places_from waits (suc p) (j + suc n) ≡ places_from waits (suc p) j ++ (place_of (waits (p + suc j)) ++ places_from waits (suc (p + suc j)) n) =
    split waits (suc p) j n ∙ ap (λ (k : ℕ). places_from waits (suc p) j ++ (place_of (waits k) ++ places_from waits (suc k) n)) f in
    rw (e, more) (sym (append_assoc (place_of (waits p)) (places_from waits (suc p) j) (place_of (waits (p + suc j)) ++ places_from waits (suc (p + suc j)) n)))

front : (ℕ → Option (List ℕ)) → ℕ → List ℕ
front waits i = places_from waits 0 i

back : (ℕ → Option (List ℕ)) → ℕ → List ℕ
back waits i = places_from waits (suc i) (255 - i)

window_at : (waits : ℕ → Option (List ℕ)) (i : ℕ) → i < 256 → window_of waits ≡ front waits i ++ (place_of (waits i) ++ back waits i)
unfolding window_of front back
window_at waits i h =
    let e : 256 ≡ i + suc (255 - i) = omega arith in
    let f : 0 + i ≡ i = omega arith in
    ap (places_from waits 0) e ∙ split waits 0 i (255 - i) ∙ ap (λ (k : ℕ). places_from waits 0 i ++ (place_of (waits k) ++ places_from waits (suc k) (255 - i))) f

length_front : (waits : ℕ → Option (List ℕ)) (fine : (i : ℕ) → Fine (waits i)) (i : ℕ) → length (front waits i) ≡ start_of i
unfolding front
length_front waits fine i = length-places waits fine 0 i

pub length_window : (waits : ℕ → Option (List ℕ)) (fine : (i : ℕ) → Fine (waits i)) → length (window_of waits) ≡ 32768
unfolding window_of
length_window waits fine = length-places waits fine 0 256

-- one place changed
pub with : (ℕ → Option (List ℕ)) → ℕ → Option (List ℕ) → ℕ → Option (List ℕ)
with waits i o k = cond (eqb k i) o (waits k)

pub with_same : (waits : ℕ → Option (List ℕ)) (i : ℕ) (o : Option (List ℕ)) → with waits i o i ≡ o
unfolding with
with_same waits i o = simp (eq-eqb i i refl)

pub with_other : (waits : ℕ → Option (List ℕ)) (i : ℕ) (o : Option (List ℕ)) (k : ℕ) → (k ≡ i → ⊥) → with waits i o k ≡ waits k
unfolding with
with_other waits i o k h = simp (ne_eqb k i h)

pub same-places : (one other : ℕ → Option (List ℕ)) (p n : ℕ) → ((k : ℕ) → p ≤ k → k < p + n → one k ≡ other k) → places_from one p n ≡ places_from other p n
unfolding places_from
same-places one other p zero h = refl
same-places one other p (suc n) h =
    rw (h p (omega arith) (omega arith), same-places one other (suc p) n (λ k low high. h k (omega arith) (omega arith)))

front_with : (waits : ℕ → Option (List ℕ)) (i : ℕ) (o : Option (List ℕ)) → front (with waits i o) i ≡ front waits i
unfolding front
front_with waits i o = same-places (with waits i o) waits 0 i (λ k low high. with_other waits i o k (λ e. omega arith))

back_with : (waits : ℕ → Option (List ℕ)) (i : ℕ) (o : Option (List ℕ)) → back (with waits i o) i ≡ back waits i
unfolding back
back_with waits i o = same-places (with waits i o) waits (suc i) (255 - i) (λ k low high. with_other waits i o k (λ e. omega arith))

window_with : (waits : ℕ → Option (List ℕ)) (i : ℕ) (o : Option (List ℕ)) → i < 256 → window_of (with waits i o) ≡ front waits i ++ (place_of o ++ back waits i)
window_with waits i o h = window_at (with waits i o) i h ∙ rw (front_with waits i o, back_with waits i o, with_same waits i o)

-- bytes put over the front of a part
over : (f z b m : List ℕ) (at : ℕ) → length f ≡ at → length m ≤ length z → splice (f ++ (z ++ b)) at m ≡ f ++ (m ++ (drop (length m) z ++ b))
unfolding splice
over f z b m at e h =
    rw (take_at f (z ++ b) at e, ← drop-drop (length m) at (f ++ (z ++ b)), drop_at f (z ++ b) at e, drop-append-le (length m) z b h)

drop-zeros : (n k : ℕ) → drop k (zeros n) ≡ zeros (n - k)
unfolding zeros
drop-zeros zero zero = refl
drop-zeros zero (suc k) = ap (λ (j : ℕ). replicate j 0) (omega_zero k)
  where
    omega_zero : (k : ℕ) → 0 ≡ 0 - suc k
    omega_zero k = omega arith
drop-zeros (suc n) zero = ap (λ (j : ℕ). replicate j 0) (omega_keep n)
  where
    omega_keep : (n : ℕ) → suc n ≡ suc n - 0
    omega_keep n = omega arith
drop-zeros (suc n) (suc k) = drop-zeros n k ∙ ap (λ (j : ℕ). replicate j 0) (omega_step n k)
  where
    omega_step : (n k : ℕ) → n - k ≡ suc n - suc k
    omega_step n k = omega arith

place_none : place_of none ≡ zeros 128
unfolding place_of
place_none = refl

place_some : (m : List ℕ) → place_of (some m) ≡ m ++ zeros (128 - length m)
unfolding place_of
place_some m = refl

part_in : (f p b : List ℕ) (at w : ℕ) → length f ≡ at → w ≤ length p → part (f ++ (p ++ b)) at w ≡ take w p
part_in f p b at w e h =
    part-is (f ++ (p ++ b)) at w (simp (length-append) (omega arith))
    ∙ ap (take w) (drop_at f (p ++ b) at e)
    ∙ take-append-le w p b h

two_zeros : take 2 (zeros 128) ≡ 0 ∷ 0 ∷ []
unfolding zeros
two_zeros = refl

-- a place by its two size bytes
size_by : (w : List ℕ) (i : ℕ) {bs : List ℕ} → part w (start_of i) 2 ≡ bs → size_at w i ≡ num bs
unfolding size_at
size_by w i e = ap num e

waits_by : (w : List ℕ) (i n : ℕ) → size_at w i ≡ n → waits_at w i ≡ cond (eqb n 0) none (some (part w (start_of i) n))
unfolding waits_at
waits_by w i n e = ap (λ (k : ℕ). cond (eqb k 0) none (some (part w (start_of i) k))) e

module _ (waits : ℕ → Option (List ℕ)) (fine : (i : ℕ) → Fine (waits i)) (i : ℕ) (within : i < 256) where
  put_over : (m : List ℕ) → length m ≤ 128 → splice (window_of waits) (start_of i) m ≡ front waits i ++ (m ++ (drop (length m) (place_of (waits i)) ++ back waits i))
  put_over m h =
      ap (λ (w : List ℕ). splice w (start_of i) m) (window_at waits i within)
      ∙ over (front waits i) (place_of (waits i)) (back waits i) m (start_of i) (length_front waits fine i) (omega (arith, length_place (waits i) (fine i)))

  -- keeping a message at a free place
  pub keep_window : (m : List ℕ) → waits i ≡ none → Framed m → splice (window_of waits) (start_of i) m ≡ window_of (with waits i (some m))
  keep_window m free framed =
      put_over m framed.most
      ∙ ap (λ (z : List ℕ). front waits i ++ (m ++ (drop (length m) z ++ back waits i))) (ap place_of free ∙ place_none)
      ∙ ap (λ (z : List ℕ). front waits i ++ (m ++ (z ++ back waits i))) (drop-zeros 128 (length m))
      ∙ ap (λ (z : List ℕ). front waits i ++ z) (sym (append_assoc m (zeros (128 - length m)) (back waits i)))
      ∙ ap (λ (z : List ℕ). front waits i ++ (z ++ back waits i)) (sym (place_some m))
      ∙ sym (window_with waits i (some m) within)

  -- freeing a place
  pub clear_window : splice (window_of waits) (start_of i) (zeros 128) ≡ window_of (with waits i none)
  clear_window =
      put_over (zeros 128) (omega (arith, length-zeros 128))
      ∙ ap (λ (z : List ℕ). front waits i ++ (zeros 128 ++ (z ++ back waits i)))
      (drop_of_length-le (place_of (waits i)) {i = length (zeros 128)} (omega (arith, length-zeros 128, length_place (waits i) (fine i))))
      ∙ ap (λ (z : List ℕ). front waits i ++ (z ++ back waits i)) (sym place_none)
      ∙ sym (window_with waits i none within)

  read_at : (w : ℕ) → w ≤ 128 → part (window_of waits) (start_of i) w ≡ take w (place_of (waits i))
  read_at w h =
      ap (λ (l : List ℕ). part l (start_of i) w) (window_at waits i within)
      ∙ part_in (front waits i) (place_of (waits i)) (back waits i) (start_of i) w (length_front waits fine i) (omega (arith, length_place (waits i) (fine i)))

  free : waits i ≡ none → waits_at (window_of waits) i ≡ none
  free e = waits_by (window_of waits) i 0 (size_by (window_of waits) i (read_at 2 (omega arith) ∙ ap (take 2) (ap place_of e ∙ place_none) ∙ two_zeros))

  held : (m : List ℕ) → waits i ≡ some m → Framed m → waits_at (window_of waits) i ≡ some m
  held m e framed =
      let place : place_of (waits i) ≡ m ++ zeros (128 - length m) = ap place_of e ∙ place_some m in
      let size : size_at (window_of waits) i ≡ length m =
      size_by (window_of waits) i
      (read_at 2 (omega arith)
      ∙ ap (take 2) place
      ∙ take-append-le 2 m (zeros (128 - length m)) (omega (arith, framed.least))
      ∙ sym (part-is m 0 2 (omega (arith, framed.least))))
      ∙ framed.told in
      let body : part (window_of waits) (start_of i) (length m) ≡ m =
      read_at (length m) framed.most ∙ ap (take (length m)) place ∙ take_at m (zeros (128 - length m)) (length m) refl in
      waits_by (window_of waits) i (length m) size
      ∙ simp (ne_eqb (length m) 0 (λ z. omega (arith, framed.least))) (ap some body)

  -- what is read at a place is what waits there
  pub waits_window : waits_at (window_of waits) i ≡ waits i
  waits_window = go (waits i) refl
    where
      go : (o : Option (List ℕ)) → waits i ≡ o → waits_at (window_of waits) i ≡ waits i
      go none e = free e ∙ sym e
      go (some m) e = held m e (subst Fine e (fine i)) ∙ sym e
