-- What the parts that read an id promise each other: they take four characters at a time, side by side in a number of 32 bits, the first
-- lowest. What an id's value is stands in Id.antt.
use Rattle.std.specs.Prelude.{◌≡◌, ℕ, ◌+◌, ◌-◌, ◌*◌, ◌/◌, ◌%◌, ◌^◌, ◌<◌, ◌≤◌, true, List, [], ◌∷◌, bit_and, nat_eq, slice_index}
use Rattle.fields.specs.Tests.{first_all}
use Rattle.fields.specs.Id.{is_digit, value_of}

-- the four characters from a place on
abbrev pub four_from : List ℕ → ℕ → List ℕ
four_from id at = slice_index id at ∷ slice_index id (at + 1) ∷ slice_index id (at + 2) ∷ slice_index id (at + 3) ∷ []

-- the four characters of a number
abbrev pub chars_of : ℕ → List ℕ
chars_of text = text % 256 ∷ text / 256 % 256 ∷ text / 65_536 % 256 ∷ text / 16_777_216 % 256 ∷ []

-- each character less 48, and less 7 more if the bit of 64 is set in it; what goes below 0 borrows from the next
unfoldable pub digits_of : ℕ → ℕ
digits_of text = (text + 2 ^ 32 - (0x3030_3030 + bit_and text 0x4040_4040 / 64 * 7)) % 2 ^ 32

-- the value of four digits, each of 6 bits
abbrev pub four_of : ℕ → ℕ
four_of digits = ((digits % 64 * 36 + digits / 256 % 64) * 36 + digits / 65_536 % 64) * 36 + digits / 16_777_216 % 64

-- one above the largest of these
abbrev pub most_four : ℕ
most_four = 3_023_308

-- all but the last `left` of the 12 characters are read: `missed` is 0 exactly if they are digits, and then `sofar` is their value
pub record Begun (id : List ℕ) (left sofar missed : ℕ) : Type 0 where
  pub few : left ≤ 12
  pub groups : left % 4 ≡ 0
  pub below : sofar < most_four ^ ((12 - left) / 4)
  pub good : nat_eq missed 0 ≡ first_all is_digit (12 - left) id
  pub value : first_all is_digit (12 - left) id ≡ true → sofar ≡ value_of (12 - left) id
