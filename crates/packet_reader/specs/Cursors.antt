-- A cursor in a packet: where it starts, the message at it, and the cursor behind that.
-- Assumes nothing.
use Rattle.std.specs.Prelude.{cond, List, ℕ, zero, suc, ◌+◌, ◌-◌, eqb, take, drop, Option, Some, None}
use Rattle.std.specs.Borrow.{Bor}
use Rattle.packet.specs.Header.{header_in}
use Rattle.packet.specs.Walk.{step_at}
use Rattle.packet_reader.specs.Reading.{no_message, refusal_of}
use Rattle.packet_reader.specs.declared.cursor.Cursor.{Cursor}
use Rattle.packet_reader.specs.declared.cursor.Frame.{Frame}
use Rattle.refusals.specs.Refusals.{refusal_by}

-- behind the header with all messages left, or with none where the packet is refused
unfoldable pub start_by : ℕ → List ℕ → Cursor
start_by refusal s = cond (eqb refusal 0) (record { at = 12; left = (header_in s).messages; refusal = None }) (record { at = 0; left = 0; refusal = Some (refusal_by refusal) })

abbrev pub start_of : List ℕ → Cursor
start_of s = start_by (refusal_of s) s

-- the size of the message at a cursor, 0 where none is left
unfoldable pub size_at : List ℕ → Cursor → ℕ
size_at s c = cond (eqb c.left 0) 0 (step_at s c.at)

abbrev pub framed_by : ℕ → ℕ → ℕ × ℕ
framed_by at size = cond (eqb size 0) no_message (at, size)

-- the message at a cursor
unfoldable pub frame_at : List ℕ → Cursor → ℕ × ℕ
frame_at s c = framed_by c.at (size_at s c)

abbrev pub framed : ℕ × ℕ → Option Frame
framed f = cond (eqb f.1 0) None (Some (record { start = f.0; size = f.1 }))

-- where none is left the cursor stays
abbrev pub moved_by : ℕ × ℕ → Cursor → Cursor
moved_by f c = cond (eqb f.1 0) c (record { at = f.0 + f.1; left = c.left - 1; refusal = c.refusal })

unfoldable pub behind_of : List ℕ → Cursor → Cursor
behind_of s c = moved_by (frame_at s c) c

-- behind so many messages
unfoldable pub after_of : ℕ → List ℕ → Cursor → Cursor
after_of zero s c = c
after_of (suc n) s c = after_of n s (behind_of s c)

-- lent bytes: where they lie, and what they are
abbrev pub Lent : Type 0
Lent = (ℕ × ℕ) × List ℕ

abbrev pub lent : Bor (List ℕ) → Lent
lent x = (x.ref_ptr, x.now)

abbrev pub lent_if : Option (Bor (List ℕ)) → Option Lent
lent_if None = None
lent_if (Some x) = Some (lent x)

-- a part of lent bytes lies in them: nothing is copied
abbrev pub part_of : Bor (List ℕ) → ℕ × ℕ → Lent
part_of x f = ((x.ref_ptr.0, x.ref_ptr.1 + f.0), take f.1 (drop f.0 x.now))

-- the part that a message is, if there is one
abbrev pub part_if : Bor (List ℕ) → ℕ × ℕ → Option Lent
part_if x f = cond (eqb f.1 0) None (Some (part_of x f))
