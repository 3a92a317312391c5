-- The lines of a table: the label before the bar, the words behind it.
-- Assumes nothing.
use Rattle.std.specs.Prelude.{List, ℕ, ◌+◌, ◌-◌, ◌==◌, get_or, take, drop, unwrap_or}
use Rattle.std.specs.List.{position_or_len}
use Rattle.text.specs.Numbers.{number_of}
use Rattle.text.specs.Words.{word_of}

-- where the first such byte is, or the end
abbrev pub place_of : ℕ → List ℕ → ℕ
place_of byte s = position_or_len (λ b. b == byte) s

-- what stands before the bar and its space
abbrev pub label_of : List ℕ → List ℕ
label_of line = take (place_of 124 line - 1) line

-- the k-th word behind the bar
abbrev pub behind_of : List ℕ → ℕ → List ℕ
behind_of line k = word_of (drop (place_of 124 line) line) (k + 1)

-- that word as a number, 0 where it is none
abbrev pub value_of : List ℕ → ℕ → ℕ
value_of line k = unwrap_or (number_of 18446744073709551615 (behind_of line k)) 0

-- its first letter, 0 where there is none
abbrev pub letter_of : List ℕ → ℕ → ℕ
letter_of line k = get_or (behind_of line k) 0 0
