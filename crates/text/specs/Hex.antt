-- Bytes in hex: two digits a byte, in either case; `-` for none.
-- Assumes nothing.
use Rattle.std.specs.Prelude.{Bool, true, false, cond, Option, IfSome, is_some, unwrap_or, ◌≡◌, List, [], ◌∷◌, ◌++◌, ℕ, ◌+◌, ◌-◌, ◌*◌, ◌/◌, ◌%◌, ◌<◌, ◌≤◌, eqb, ltb, length, take}
use Rattle.wire.specs.Choice.{first_of}

-- the value of a digit; 16 of any other character
unfoldable pub digit_of : ℕ → ℕ
digit_of c = first_of ((ltb c 48, 16) ∷ (ltb c 58, c - 48) ∷ (ltb c 65, 16) ∷ (ltb c 71, c - 55) ∷ (ltb c 97, 16) ∷ (ltb c 103, c - 87) ∷ []) 16

-- the byte of two digits; 256 where they are none
unfoldable pub pair_of : ℕ → ℕ → ℕ
pair_of a b = first_of ((eqb (digit_of a) 16, 256) ∷ (eqb (digit_of b) 16, 256) ∷ []) (digit_of a * 16 + digit_of b)

unfoldable pub is_pairs : List ℕ → Bool
is_pairs [] = true
is_pairs (a ∷ []) = false
is_pairs (a ∷ b ∷ rest) = cond (ltb (pair_of a b) 256) (is_pairs rest) false

unfoldable pub bytes_of : List ℕ → List ℕ
bytes_of [] = []
bytes_of (a ∷ []) = []
bytes_of (a ∷ b ∷ rest) = pair_of a b ∷ bytes_of rest

-- the word `-`
unfoldable pub is_dash : List ℕ → Bool
is_dash [] = false
is_dash (a ∷ []) = eqb a 45
is_dash (a ∷ b ∷ rest) = false

unfoldable pub is_bytes : List ℕ → Bool
is_bytes word = cond (is_dash word) true (cond (eqb (length word) 0) false (is_pairs word))

pub record Digit (c : ℕ) (r : Option ℕ) : Type 0 where
  pub is : unwrap_or r 16 ≡ digit_of c
  pub most : IfSome r (λ digit. digit < 16)

pub record Pair (a b : ℕ) (r : Option ℕ) : Type 0 where
  pub is : unwrap_or r 256 ≡ pair_of a b
  pub most : IfSome r (λ byte. byte < 256)

-- digits read into a buffer
pub record Fills (word : List ℕ) (count : ℕ) (r : Bool) (new : List ℕ) : Type 0 where
  pub is : r ≡ is_pairs word
  pub bytes : r ≡ true → take count new ≡ bytes_of word

-- a word read into a buffer that may be too short for it
pub record Reads (word : List ℕ) (room : ℕ) (r : Option ℕ) (new : List ℕ) : Type 0 where
  pub within : IfSome r (λ count. count ≤ length new)
  pub good : length word ≤ room * 2 → is_some r ≡ is_bytes word
  pub bytes : IfSome r (λ count. take count new ≡ bytes_of word)

-- bytes spelt in lower case
unfoldable pub glyph_of : ℕ → ℕ
glyph_of digit = cond (ltb digit 10) (48 + digit) (87 + digit)

abbrev pub two_of : ℕ → List ℕ
two_of byte = glyph_of (byte / 16) ∷ glyph_of (byte % 16) ∷ []

unfoldable pub spelt_of : List ℕ → List ℕ
spelt_of [] = []
spelt_of (byte ∷ bytes) = two_of byte ++ spelt_of bytes

unfoldable pub hex_of : List ℕ → List ℕ
hex_of [] = 45 ∷ []
hex_of (byte ∷ bytes) = spelt_of (byte ∷ bytes)
