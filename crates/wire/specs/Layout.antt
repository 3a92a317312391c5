-- A layout: the fields of a header or a message, one behind the other. Reading and writing both go along it,
-- so an offset stands nowhere else.
-- Assumes nothing.
use Rattle.std.specs.Prelude.{◌≡◌, List, [], ◌∷◌, ◌++◌, ℕ, ◌+◌, ◌^◌, ◌<◌, length, get_or}
use Rattle.wire.specs.Number.{num, be, part, splice, Bytes}

-- a field is a number of w bytes or a text of w bytes
pub data Field : Type 0 where
  number : ℕ → Field
  text : ℕ → Field

-- what a field holds
pub data Value : Type 0 where
  number_is : ℕ → Value
  text_is : List ℕ → Value

abbrev pub size_of : Field → ℕ
size_of (number w) = w
size_of (text w) = w

-- the bytes that a layout takes
abbrev pub width_of : List Field → ℕ
width_of [] = 0
width_of (f ∷ fs) = size_of f + width_of fs

-- the offset of each field, the first one at `at`
abbrev pub offsets_from : ℕ → List Field → List ℕ
offsets_from at [] = []
offsets_from at (f ∷ fs) = at ∷ offsets_from (at + size_of f) fs

abbrev pub value_at : Field → ℕ → List ℕ → Value
value_at (number w) at s = number_is (num (part s at w))
value_at (text w) at s = text_is (part s at w)

-- the values of a layout's fields, read from a place on
abbrev pub decode : List Field → ℕ → List ℕ → List Value
decode [] at s = []
decode (f ∷ fs) at s = value_at f at s ∷ decode fs (at + size_of f) s

abbrev pub bytes_of : Field → Value → List ℕ
bytes_of (number w) (number_is n) = be w n
bytes_of (number w) (text_is bs) = []
bytes_of (text w) (number_is n) = []
bytes_of (text w) (text_is bs) = bs

-- the bytes of a layout's fields
abbrev pub encode : List Field → List Value → List ℕ
encode [] [] = []
encode [] (v ∷ vs) = []
encode (f ∷ fs) [] = []
encode (f ∷ fs) (v ∷ vs) = bytes_of f v ++ encode fs vs

-- a row put at a place in bytes, all others staying
unfoldable pub put_row : List Field → List Value → List ℕ → ℕ → List ℕ
put_row fs vs s at = splice s at (encode fs vs)

-- the number, or the text, that the k-th field holds
abbrev pub number_of : Value → ℕ
number_of (number_is n) = n
number_of (text_is bs) = 0

abbrev pub text_of : Value → List ℕ
text_of (number_is n) = []
text_of (text_is bs) = bs

abbrev pub number_in : List Value → ℕ → ℕ
number_in vs k = number_of (get_or vs k (number_is 0))

abbrev pub text_in : List Value → ℕ → List ℕ
text_in vs k = text_of (get_or vs k (text_is []))

-- a value that a field holds: a number below 256 ^ w, or a text of exactly w bytes
abbrev pub Holds : Field → Value → Type 0
Holds (number w) (number_is n) = n < 256 ^ w
Holds (number w) (text_is bs) = ⊥
Holds (text w) (number_is n) = ⊥
Holds (text w) (text_is bs) = (length bs ≡ w) × Bytes bs

-- a row that fits a layout: as many values as fields, each one that its field holds
abbrev pub Fits : List Field → List Value → Type 0
Fits [] [] = Unit {0}
Fits [] (v ∷ vs) = ⊥
Fits (f ∷ fs) [] = ⊥
Fits (f ∷ fs) (v ∷ vs) = Holds f v × Fits fs vs
