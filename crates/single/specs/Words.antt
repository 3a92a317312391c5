-- The fields of a message as numbers of 1, 2, 4 or 8 bytes, in the order of its layout.
-- Assumes nothing.
use Rattle.std.specs.Prelude.{cond, List, [], ◌∷◌, ◌++◌, ℕ, ◌+◌, ◌≤◌, eqb, length, Result}
use Rattle.refusals.specs.declared.Refusal.{Refusal}
use Rattle.wire.specs.Layout.{Field, number, text, Value, number_is, text_is}
use Rattle.wire.specs.Number.{num, part}
use Rattle.message.specs.Row.{row_of, type_of}
use Rattle.message.specs.declared.kinds.Message.{Message}
use Rattle.single.specs.Told.{told_by}
use Rattle.single.specs.declared.words.Width.{Width}
use Rattle.single.specs.declared.words.Width.TheVariants.{One, Two, Four, Eight}

-- a number is one; a text of 14 bytes is three, its first eight bytes, the next four and the last two; a shorter one is one
abbrev pub widths_in : Field → List ℕ
widths_in (number w) = w ∷ []
widths_in (text w) = cond (eqb w 14) (8 ∷ 4 ∷ 2 ∷ []) (w ∷ [])

abbrev pub widths_of : List Field → List ℕ
widths_of [] = []
widths_of (f ∷ fs) = widths_in f ++ widths_of fs

-- the numbers of so many bytes each that stand in bytes, from a place on
abbrev pub words_at : List ℕ → ℕ → List ℕ → List ℕ
words_at [] at s = []
words_at (w ∷ ws) at s = num (part s at w) ∷ words_at ws (at + w) s

-- ---- a message in numbers: its type, then what its fields hold

abbrev pub numbers_in : Value → List ℕ
numbers_in (number_is n) = n ∷ []
numbers_in (text_is bs) = words_at (widths_in (text (length bs))) 0 bs

abbrev pub numbers_of : List Value → List ℕ
numbers_of [] = []
numbers_of (v ∷ vs) = numbers_in v ++ numbers_of vs

abbrev pub message_numbers : Message → List ℕ
message_numbers m = type_of m ∷ numbers_of (row_of m)

-- what reading answers; a refusal leaves what was lent
abbrev pub message_told : Result Message Refusal → List ℕ → List ℕ
message_told = told_by message_numbers

-- ---- the widths of a row

abbrev pub bytes_in : Width → ℕ
bytes_in One = 1
bytes_in Two = 2
bytes_in Four = 4
bytes_in Eight = 8

abbrev pub counts : List Width → List ℕ
counts [] = []
counts (w ∷ ws) = bytes_in w ∷ counts ws

abbrev pub total : List ℕ → ℕ
total [] = 0
total (w ∷ ws) = w + total ws

-- they are no more than there are numbers, and behind a message's header n bytes have room for them
pub record Laid (ws : List ℕ) (n : ℕ) : Type 0 where
  pub most : length ws ≤ 13
  pub head : 3 ≤ n
  pub room : 3 + total ws ≤ n
