-- A place in lent bytes: what was put there is read there, and what is read there can be put back.
-- Assumes nothing.
use mathlib.Core.Path.{◌≡◌, refl, ap, ◌∙◌, sym, subst}
use mathlib.Core.List.{List, [], ◌∷◌, ◌++◌, append_assoc}
use Prim.Native.Nat.{ℕ, zero, suc, ◌+◌, ◌-◌, ◌^◌, ◌≤◌, ◌<◌}
use native.Mathlib.Nat.{add_assoc, add-zero}
use native.Mathlib.Omega.{arith}
use lib.ListN.{length, get_or, take, drop, length-append, length-take, length-drop, take-append-drop}
use lib.Seq.{drop-cons, take_all, take_at, drop_at, drop-drop, length-take-le, take-add}
use Rattle.wire.specs.Number.{num, be, behind, part, splice, Bytes}
use Rattle.wire.proofs.Digits.{length-be, num-be, be-num}

-- the bytes one by one are a part of the list
cons : (s : List ℕ) (at w : ℕ) → at < length s → take (suc w) (drop at s) ≡ get_or s at 0 ∷ take w (drop (at + 1) s)
cons s at w h =
    let e : suc at ≡ at + 1 = omega arith in
    rw (drop-cons s at 0 h, e)

behind-is : (s : List ℕ) (at k w : ℕ) → at + k + w ≤ length s → behind s at k w ≡ take w (drop (at + k) s)
behind-is s at k zero h = refl
behind-is s at k (suc w) h =
    let e : at + k + 1 ≡ at + suc k = omega arith in
    rw (cons s (at + k) w (omega arith), e, behind-is s at (suc k) w (omega arith))

pub part-is : (s : List ℕ) (at w : ℕ) → at + w ≤ length s → part s at w ≡ take w (drop at s)
part-is s at zero h = refl
part-is s at (suc w) h = rw (cons s at w (omega arith), behind-is s at 1 w (omega arith))

-- the same part by its ends
pub part-range : (s : List ℕ) (at w : ℕ) → at + w ≤ length s → take (at + w - at) (drop at s) ≡ part s at w
part-range s at w h =
    let k : at + w - at ≡ w = omega arith in
    ap (λ (n : ℕ). take n (drop at s)) k ∙ sym (part-is s at w h)

pub length_part : (s : List ℕ) (at w : ℕ) → at + w ≤ length s → length (part s at w) ≡ w
length_part s at w h = rw (part-is s at w h) (length-take-le w (drop at s) (simp length-drop (omega arith)))

pub get_d_small : (s : List ℕ) (k : ℕ) → Bytes s → get_or s k 0 < 256
get_d_small [] k h = omega arith
get_d_small (b ∷ s) zero h = h.0
get_d_small (b ∷ s) (suc k) h = get_d_small s k h.1

behind_bytes : (s : List ℕ) (at k w : ℕ) → Bytes s → Bytes (behind s at k w)
behind_bytes s at k zero h = tt
behind_bytes s at k (suc w) h = (get_d_small s (at + k) h, behind_bytes s at (suc k) w h)

pub part_bytes : (s : List ℕ) (at w : ℕ) → Bytes s → Bytes (part s at w)
part_bytes s at zero h = tt
part_bytes s at (suc w) h = (get_d_small s at h, behind_bytes s at 1 w h)

pub length-splice : (s : List ℕ) (at : ℕ) (bs : List ℕ) → at + length bs ≤ length s → length (splice s at bs) ≡ length s
unfolding splice
length-splice s at bs h = simp (length-append, length-take, length-drop) (omega arith)

-- put, then read
within : (s : List ℕ) (at : ℕ) (bs : List ℕ) → at + length bs ≤ length s → take (length bs) (drop at (splice s at bs)) ≡ bs
unfolding splice
within s at bs h =
    ap (take (length bs)) (drop_at (take at s) (bs ++ drop (at + length bs) s) at (length-take-le at s (omega arith)))
    ∙ take_at bs (drop (at + length bs) s) (length bs) refl

pub part-splice : (s : List ℕ) (at : ℕ) (bs : List ℕ) → at + length bs ≤ length s → part (splice s at bs) at (length bs) ≡ bs
part-splice s at bs h = part-is (splice s at bs) at (length bs) (rw (length-splice s at bs h) h) ∙ within s at bs h

-- read, then put back
pub splice-part : (s : List ℕ) (at w : ℕ) → at + w ≤ length s → splice s at (part s at w) ≡ s
unfolding splice
splice-part s at w h =
    rw (length_part s at w h, part-is s at w h, ← drop-drop w at s, take-append-drop w (drop at s))
    (take-append-drop at s)

-- bytes between others are read where they stand, and a longer part is two
pub part-between : (pre bs rest : List ℕ) → part (pre ++ (bs ++ rest)) (length pre) (length bs) ≡ bs
part-between pre bs rest =
    part-is (pre ++ (bs ++ rest)) (length pre) (length bs) (simp length-append (omega arith))
    ∙ ap (take (length bs)) (drop_at pre (bs ++ rest) (length pre) refl)
    ∙ take_at bs rest (length bs) refl

pub part-add : (s : List ℕ) (at v w : ℕ) → at + (v + w) ≤ length s → part s at v ++ part s (at + v) w ≡ part s at (v + w)
part-add s at v w h =
    rw (part-is s at v (omega arith), part-is s (at + v) w (omega arith), part-is s at (v + w) h, take-add v w (drop at s), drop-drop v at s)

pub part-all : (s : List ℕ) → part s 0 (length s) ≡ s
part-all s = part-is s 0 (length s) (omega arith) ∙ take_all (length s) s (omega arith)

-- two puts side by side are one
pub splice-none : (s : List ℕ) (at : ℕ) → splice s at [] ≡ s
unfolding splice
splice-none s at = rw (add-zero at) (take-append-drop at s)

pub splice_next : (s : List ℕ) (at : ℕ) (xs ys : List ℕ) → at ≤ length s → splice (splice s at xs) (at + length xs) ys ≡ splice s at (xs ++ ys)
unfolding splice
splice_next s at xs ys h =
    let n = at + length xs in
    let front : length (take at s ++ xs) ≡ n = length-append (take at s) xs ∙ ap (λ (k : ℕ). k + length xs) (length-take-le at s h) in
    let end : drop (n + length ys) (take at s ++ xs ++ drop n s) ≡ drop (n + length ys) s =
    sym (drop-drop (length ys) n (take at s ++ xs ++ drop n s))
    ∙ ap (drop (length ys)) (drop_at (take at s ++ xs) (drop n s) n front)
    ∙ drop-drop (length ys) n s in
    rw (← append_assoc (take at s) xs (drop n s), take_at (take at s ++ xs) (drop n s) n front, end, length-append xs ys, ← add_assoc at (length xs) (length ys), append_assoc xs ys (drop (n + length ys) s))
    (append_assoc (take at s) xs (ys ++ drop (n + length ys) s))

-- a number: written, then read; and read, then written
pub written_reads : (s : List ℕ) (at w n : ℕ) → n < 256 ^ w → at + w ≤ length s → num (part (splice s at (be w n)) at w) ≡ n
written_reads s at w n small h =
    ap num
    (subst (λ (k : ℕ). part (splice s at (be w n)) at k ≡ be w n) (length-be w n)
    (part-splice s at (be w n) (rw (length-be w n) h)))
    ∙ num-be w n small

pub be-part : (s : List ℕ) (at w : ℕ) → Bytes s → at + w ≤ length s → be w (num (part s at w)) ≡ part s at w
be-part s at w bytes h =
    subst (λ (k : ℕ). be k (num (part s at w)) ≡ part s at w) (length_part s at w h)
    (be-num (part s at w) (part_bytes s at w bytes))

pub read_writes : (s : List ℕ) (at w : ℕ) → Bytes s → at + w ≤ length s → splice s at (be w (num (part s at w))) ≡ s
read_writes s at w bytes h = rw (be-part s at w bytes h) (splice-part s at w h)
