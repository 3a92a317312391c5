-- Document 01, test 7: the messages of a packet, one behind the other from byte 12 on.
-- Assumes nothing.
use Rattle.std.specs.Prelude.{Bool, cond, ◌||◌, List, [], ◌∷◌, ℕ, zero, suc, ◌+◌, eqb, ltb, length, Option, Some, None}
use Rattle.wire.specs.Layout.{decode, number_in}
use Rattle.message.specs.Layouts.{head}
use Rattle.message.specs.Table.{too_short}

-- MessageSize and MessageType of the message at a place
abbrev pub size_at : List ℕ → ℕ → ℕ
size_at s at = number_in (decode head at s) 0

abbrev pub type_at : List ℕ → ℕ → ℕ
type_at s at = number_in (decode head at s) 1

-- the message at a place is past the packet, under 3 or over 128 bytes, or of a listed type and too short
unfoldable pub broken_at : List ℕ → ℕ → Bool
broken_at s at =
    ltb (length s) (at + 3) || ltb (size_at s at) 3 || ltb 128 (size_at s at) || ltb (length s) (at + size_at s at) || too_short (type_at s at) (size_at s at)

-- so many messages from a place on: where the first fault is, a message or bytes left over; none where they are whole
unfoldable pub walk_from : ℕ → ℕ → List ℕ → Option ℕ
walk_from zero at s = cond (ltb at (length s)) (Some at) None
walk_from (suc left) at s = cond (broken_at s at) (Some at) (walk_from left (at + size_at s at) s)

-- the messages themselves: where each starts, and how many bytes it has
unfoldable pub frames_from : ℕ → ℕ → List ℕ → List (ℕ × ℕ)
frames_from zero at s = []
frames_from (suc left) at s = (at, size_at s at) ∷ frames_from left (at + size_at s at) s

-- the step that a walk takes at a place: MessageSize, or 0 where the message is at fault
unfoldable pub step_at : List ℕ → ℕ → ℕ
step_at s at = cond (broken_at s at) 0 (size_at s at)

-- a size that 0 stands for where there is none
abbrev pub some_size : ℕ → Option ℕ
some_size size = cond (eqb size 0) None (Some size)
