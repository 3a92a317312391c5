-- An order id: its rule and its value.
use Rattle.std.specs.Prelude.{ℕ, zero, suc, ◌+◌, ◌-◌, ◌*◌, ◌^◌, Bool, cond, not, ◌||◌, List, ◌==◌, slice_index, Result, Ok, Err}
use Rattle.fields.specs.Tests.{between, first_all}
use Rattle.refusals.specs.declared.Refusal.{Refusal}
use Rattle.refusals.specs.declared.Refusal.TheVariants.{BadQuestion}

-- the character is 0-9
abbrev pub is_numeral : ℕ → Bool
is_numeral c = between 0x30 0x39 c

-- the character is A-Z
abbrev pub is_capital : ℕ → Bool
is_capital c = between 0x41 0x5A c

-- a digit of base 36
unfoldable pub is_digit : ℕ → Bool
is_digit c = is_numeral c || is_capital c

-- 0-9 count 0 to 9, A-Z count 10 to 35; 36 says that the character is no digit
unfoldable pub digit_of : ℕ → ℕ
digit_of c = cond (is_numeral c) (c - 0x30) (cond (is_capital c) (c - 0x41 + 10) 36)

-- the first 12 characters are digits; the last two are never looked at
unfoldable pub good_id : List ℕ → Bool
good_id id = first_all is_digit 12 id

-- the value of the first k characters
unfoldable pub value_of : ℕ → List ℕ → ℕ
value_of zero id = 0
value_of (suc k) id = 36 * value_of k id + digit_of (slice_index id k)

-- one above the largest value of 12 characters: no id has it
abbrev pub no_value : ℕ
no_value = 36 ^ 12

-- the id's value, or no_value where it breaks its rule
unfoldable pub number_of : List ℕ → ℕ
number_of id = cond (good_id id) (value_of 12 id) no_value

-- of an id's number, whether the id keeps its rule (the law `value_good`)
abbrev pub is_value : ℕ → Bool
is_value number = not (number == no_value)

-- what asking for an id's value answers
unfoldable pub id_answer : List ℕ → Result ℕ Refusal
id_answer id = cond (good_id id) (Ok (value_of 12 id)) (Err BadQuestion)
