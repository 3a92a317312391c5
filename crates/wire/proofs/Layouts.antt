-- A layout's values and its bytes, for every layout: each law goes along the list of fields.
-- Assumes nothing.
use mathlib.Core.Path.{◌≡◌, refl, ap, ◌∙◌, sym, subst}
use mathlib.Core.List.{List, [], ◌∷◌, ◌++◌, append_assoc, append-nil}
use Prim.Native.Nat.{ℕ, ◌+◌, ◌^◌, ◌≤◌, ◌<◌}
use native.Mathlib.Nat.{le_trans}
use native.Mathlib.Omega.{arith}
use lib.Dec.{T, leb, lit≤}
use lib.ListN.{length, length-append}
use Rattle.wire.specs.Layout.{Field, number, text, Value, number_is, text_is, size_of, width_of, value_at, decode, bytes_of, encode, put_row, Holds, Fits}
use Rattle.wire.specs.Number.{num, be, part, splice, Bytes}
use Rattle.wire.proofs.Digits.{length-be, num-be, num_small}
use Rattle.wire.proofs.Place.{part-between, part-add, part_bytes, length_part, be-part, splice-none, splice_next}

-- a row that has the layout's kinds, each text as long as its field: all that a length asks
abbrev pub Sized : List Field → List Value → Type 0
Sized [] [] = Unit {0}
Sized [] (v ∷ vs) = ⊥
Sized (f ∷ fs) [] = ⊥
Sized (number w ∷ fs) (number_is n ∷ vs) = Sized fs vs
Sized (number w ∷ fs) (text_is bs ∷ vs) = ⊥
Sized (text w ∷ fs) (number_is n ∷ vs) = ⊥
Sized (text w ∷ fs) (text_is bs ∷ vs) = (length bs ≡ w) × Sized fs vs

pub fits_sized : (fs : List Field) (vs : List Value) → Fits fs vs → Sized fs vs
fits_sized [] [] h = tt
fits_sized [] (v ∷ vs) h = absurd h
fits_sized (f ∷ fs) [] h = absurd h
fits_sized (number w ∷ fs) (number_is n ∷ vs) h = fits_sized fs vs h.1
fits_sized (number w ∷ fs) (text_is bs ∷ vs) h = absurd h.0
fits_sized (text w ∷ fs) (number_is n ∷ vs) h = absurd h.0
fits_sized (text w ∷ fs) (text_is bs ∷ vs) h = (h.0.0, fits_sized fs vs h.1)

-- one value of such a row, and the others
sized_first : (f : Field) (v : Value) (fs : List Field) (vs : List Value) → Sized (f ∷ fs) (v ∷ vs) → (length (bytes_of f v) ≡ size_of f) × Sized fs vs
sized_first (number w) (number_is n) fs vs h = (length-be w n, h)
sized_first (number w) (text_is bs) fs vs h = absurd h
sized_first (text w) (number_is n) fs vs h = absurd h
sized_first (text w) (text_is bs) fs vs h = h

-- such a row takes the layout's bytes
pub length-encode : (fs : List Field) (vs : List Value) → Sized fs vs → length (encode fs vs) ≡ width_of fs
length-encode [] [] h = refl
length-encode [] (v ∷ vs) h = absurd h
length-encode (f ∷ fs) [] h = absurd h
length-encode (f ∷ fs) (v ∷ vs) h =
    let first = sized_first f v fs vs h in
    rw (length-append (bytes_of f v) (encode fs vs), first.0, length-encode fs vs first.1)

-- a value's bytes, wherever they stand, are read as the value
value_there : (f : Field) (v : Value) (pre rest : List ℕ) → Holds f v → value_at f (length pre) (pre ++ (bytes_of f v ++ rest)) ≡ v
value_there (number w) (number_is n) pre rest h =
    ap number_is
    (ap num
    (subst (λ (k : ℕ). part (pre ++ (be w n ++ rest)) (length pre) k ≡ be w n) (length-be w n) (part-between pre (be w n) rest))
    ∙ num-be w n h)
value_there (number w) (text_is bs) pre rest h = absurd h
value_there (text w) (number_is n) pre rest h = absurd h
value_there (text w) (text_is bs) pre rest h =
    ap text_is
    (subst (λ (k : ℕ). part (pre ++ (bs ++ rest)) (length pre) k ≡ bs) h.0 (part-between pre bs rest))

-- written, then read: the row, wherever its bytes stand
pub decode-encode : (fs : List Field) (vs : List Value) (pre rest : List ℕ) → Fits fs vs → decode fs (length pre) (pre ++ (encode fs vs ++ rest)) ≡ vs
decode-encode [] [] pre rest h = refl
decode-encode [] (v ∷ vs) pre rest h = absurd h
decode-encode (f ∷ fs) [] pre rest h = absurd h
decode-encode (f ∷ fs) (v ∷ vs) pre rest h =
    let bs = bytes_of f v in
    let more = encode fs vs ++ rest in
    let next : length pre + size_of f ≡ length (pre ++ bs) = sym (length-append pre bs ∙ ap (λ (k : ℕ). length pre + k) (sized_first f v fs vs (fits_sized (f ∷ fs) (v ∷ vs) h)).0) in
    rw (append_assoc bs (encode fs vs) rest, value_there f v pre more h.0, next, ← append_assoc pre bs more, decode-encode fs vs (pre ++ bs) rest h.1)

value_back : (f : Field) (at : ℕ) (s : List ℕ) → Bytes s → at + size_of f ≤ length s → bytes_of f (value_at f at s) ≡ part s at (size_of f)
value_back (number w) at s bytes h = be-part s at w bytes h
value_back (text w) at s bytes h = refl

-- read, then written: the bytes that were read
pub encode-decode : (fs : List Field) (at : ℕ) (s : List ℕ) → Bytes s → at + width_of fs ≤ length s → encode fs (decode fs at s) ≡ part s at (width_of fs)
encode-decode [] at s bytes h = refl
encode-decode (f ∷ fs) at s bytes h =
    rw (value_back f at s bytes (omega arith), encode-decode fs (at + size_of f) s bytes (omega arith), part-add s at (size_of f) (width_of fs) h)

value_holds : (f : Field) (at : ℕ) (s : List ℕ) → Bytes s → at + size_of f ≤ length s → Holds f (value_at f at s)
value_holds (number w) at s bytes h =
    subst (λ (k : ℕ). num (part s at w) < 256 ^ k) (length_part s at w h) (num_small (part s at w) (part_bytes s at w bytes))
value_holds (text w) at s bytes h = (length_part s at w h, part_bytes s at w bytes)

-- a field that ends within a layout stands in bytes that have room for the layout
pub within : {end size n : ℕ} → T (leb end size) → size ≤ n → end ≤ n
within t h = le_trans (lit≤ t) h

-- what is read fits
pub decode_fits : (fs : List Field) (at : ℕ) (s : List ℕ) → Bytes s → at + width_of fs ≤ length s → Fits fs (decode fs at s)
decode_fits [] at s bytes h = tt
decode_fits (f ∷ fs) at s bytes h =
    (value_holds f at s bytes (omega arith), decode_fits fs (at + size_of f) s bytes (omega arith))

-- fields put one behind the other, from the k-th byte behind a place on, and from a place on
abbrev pub behind : List Field → List Value → List ℕ → ℕ → ℕ → List ℕ
behind [] vs s at k = s
behind (f ∷ fs) [] s at k = s
behind (f ∷ fs) (v ∷ vs) s at k = behind fs vs (splice s (at + k) (bytes_of f v)) at (k + size_of f)

abbrev pub puts : List Field → List Value → List ℕ → ℕ → List ℕ
puts [] vs s at = s
puts (f ∷ fs) [] s at = s
puts (f ∷ fs) (v ∷ vs) s at = behind fs vs (splice s at (bytes_of f v)) at (size_of f)

behind-splice : (fs : List Field) (vs : List Value) (s : List ℕ) (at : ℕ) (bs : List ℕ) → Sized fs vs → at ≤ length s → behind fs vs (splice s at bs) at (length bs) ≡ splice s at (bs ++ encode fs vs)
behind-splice [] [] s at bs h room = ap (splice s at) (sym (append-nil bs))
behind-splice [] (v ∷ vs) s at bs h room = absurd h
behind-splice (f ∷ fs) [] s at bs h room = absurd h
behind-splice (f ∷ fs) (v ∷ vs) s at bs h room =
    let first = sized_first f v fs vs h in
    let more = bytes_of f v in
    let next : length bs + size_of f ≡ length (bs ++ more) = sym (length-append bs more ∙ ap (λ (k : ℕ). length bs + k) first.0) in
    rw (splice_next s at bs more room, next, behind-splice fs vs s at (bs ++ more) first.1 room, append_assoc bs more (encode fs vs))

puts_splice : (fs : List Field) (vs : List Value) (s : List ℕ) (at : ℕ) → Sized fs vs → at ≤ length s → puts fs vs s at ≡ splice s at (encode fs vs)
puts_splice [] [] s at h room = sym (splice-none s at)
puts_splice [] (v ∷ vs) s at h room = absurd h
puts_splice (f ∷ fs) [] s at h room = absurd h
puts_splice (f ∷ fs) (v ∷ vs) s at h room =
    let first = sized_first f v fs vs h in
    subst (λ (k : ℕ). behind fs vs (splice s at (bytes_of f v)) at k ≡ splice s at (bytes_of f v ++ encode fs vs)) first.0
    (behind-splice fs vs s at (bytes_of f v) first.1 room)

-- one put more: these bytes, put into what the puts before it made
pub then : (at : ℕ) (bs : List ℕ) {s t u : List ℕ} → t ≡ s → u ≡ splice t at bs → u ≡ splice s at bs
then at bs e d = d ∙ ap (λ (l : List ℕ). splice l at bs) e

-- fields put one behind the other are the row put
pub puts_row : (fs : List Field) (vs : List Value) (s : List ℕ) (at : ℕ) {t : List ℕ} → Sized fs vs → at ≤ length s → t ≡ puts fs vs s at → t ≡ put_row fs vs s at
unfolding put_row
puts_row fs vs s at h room e = e ∙ puts_splice fs vs s at h room

pub number_row : (w n : ℕ) (s : List ℕ) (at : ℕ) {t : List ℕ} → t ≡ splice s at (be w n) → t ≡ put_row (number w ∷ []) (number_is n ∷ []) s at
unfolding put_row
number_row w n s at e = e ∙ ap (splice s at) (sym (append-nil (be w n)))

pub none_row : (fs : List Field) (s : List ℕ) (at : ℕ) → s ≡ put_row fs [] s at
unfolding put_row
none_row [] s at = sym (splice-none s at)
none_row (f ∷ fs) s at = sym (splice-none s at)

-- a layout in two parts
encode-append : (fs gs : List Field) (vs us : List Value) → Sized fs vs → encode (fs ++ gs) (vs ++ us) ≡ encode fs vs ++ encode gs us
encode-append [] gs [] us h = refl
encode-append [] gs (v ∷ vs) us h = absurd h
encode-append (f ∷ fs) gs [] us h = absurd h
encode-append (f ∷ fs) gs (v ∷ vs) us h =
    rw (encode-append fs gs vs us (sized_first f v fs vs h).1, append_assoc (bytes_of f v) (encode fs vs) (encode gs us))

pub parts_row : (fs gs : List Field) (vs us : List Value) (s : List ℕ) (at : ℕ) {t u : List ℕ} → Sized fs vs → at ≤ length s → t ≡ put_row fs vs s at → u ≡ put_row gs us t (at + width_of fs) → u ≡ put_row (fs ++ gs) (vs ++ us) s at
unfolding put_row
parts_row fs gs vs us s at h room e d =
    d
    ∙ ap (λ (l : List ℕ). splice l (at + width_of fs) (encode gs us)) e
    ∙ ap (λ (k : ℕ). splice (splice s at (encode fs vs)) (at + k) (encode gs us)) (sym (length-encode fs vs h))
    ∙ splice_next s at (encode fs vs) (encode gs us) room
    ∙ ap (splice s at) (sym (encode-append fs gs vs us h))

-- a row put, then fields put one behind the other
pub row_then : (fs gs : List Field) (vs us : List Value) (s : List ℕ) (at : ℕ) {t u : List ℕ} → Sized fs vs → Sized gs us → at ≤ length s → t ≡ put_row fs vs s at → u ≡ behind gs us t at (width_of fs) → u ≡ put_row (fs ++ gs) (vs ++ us) s at
unfolding put_row
row_then fs gs vs us s at h k room e d =
    d
    ∙ ap (λ (l : List ℕ). behind gs us l at (width_of fs)) e
    ∙ ap (λ (n : ℕ). behind gs us (splice s at (encode fs vs)) at n) (sym (length-encode fs vs h))
    ∙ behind-splice gs us s at (encode fs vs) k room
    ∙ ap (splice s at) (sym (encode-append fs gs vs us h))
