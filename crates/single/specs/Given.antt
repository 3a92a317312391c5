-- A message given by its numbers, and what writing it answers.
-- Assumes nothing.
use Rattle.std.specs.Prelude.{Bool, false, cond, ◌||◌, List, [], ◌∷◌, ◌++◌, ℕ, suc, ◌+◌, ◌^◌, leb, get_or, length, Result, Ok, Err}
use Rattle.refusals.specs.declared.Refusal.{Refusal}
use Rattle.refusals.specs.declared.Refusal.TheVariants.{RuleBroken}
use Rattle.wire.specs.Layout.{Field, number, text, Value, number_is, text_is}
use Rattle.wire.specs.Number.{be}
use Rattle.message.specs.Layouts.{layout_of}
use Rattle.message.specs.Row.{message_of}
use Rattle.message.specs.declared.kinds.Message.{Message}
use Rattle.message_write.specs.Writing.{buffer_after, write_of}
use Rattle.single.specs.Words.{widths_in, widths_of}

-- the bytes of numbers, from the k-th on, each in its width
abbrev pub bytes_from : List ℕ → ℕ → List ℕ → List ℕ
bytes_from [] k ns = []
bytes_from (w ∷ ws) k ns = be w (get_or ns k 0) ++ bytes_from ws (suc k) ns

-- one of them does not fit in its width
abbrev pub wide_from : List ℕ → ℕ → List ℕ → Bool
wide_from [] k ns = false
wide_from (w ∷ ws) k ns = leb (256 ^ w) (get_or ns k 0) || wide_from ws (suc k) ns

-- the values of a layout's fields, from the k-th number on
abbrev pub value_from : Field → ℕ → List ℕ → Value
value_from (number w) k ns = number_is (get_or ns k 0)
value_from (text w) k ns = text_is (bytes_from (widths_in (text w)) k ns)

abbrev pub row_from : List Field → ℕ → List ℕ → List Value
row_from [] k ns = []
row_from (f ∷ fs) k ns = value_from f k ns ∷ row_from fs (k + length (widths_in f)) ns

-- the type stands first
abbrev pub type_given : List ℕ → ℕ
type_given ns = get_or ns 0 0

abbrev pub message_given : List ℕ → Message
message_given ns = message_of (type_given ns) (row_from (layout_of (type_given ns)) 1 ns)

-- a number that no field of its width holds makes no message
unfoldable pub too_wide : List ℕ → Bool
too_wide ns = leb 256 (type_given ns) || wide_from (widths_of (layout_of (type_given ns))) 1 ns

abbrev pub message_if : List ℕ → Result Message Refusal
message_if ns = cond (too_wide ns) (Err RuleBroken) (Ok (message_given ns))

-- then 14, and the buffer stays; else as the message is written
unfoldable pub given_of : List ℕ → List ℕ → ℕ → Result ℕ Refusal
given_of ns buf at = cond (too_wide ns) (Err RuleBroken) (write_of (message_given ns) buf at)

unfoldable pub given_buffer : List ℕ → List ℕ → ℕ → List ℕ
given_buffer ns buf at = cond (too_wide ns) buf (buffer_after (message_given ns) buf at)
