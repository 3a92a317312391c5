-- A reader and its steps: each gives the next message and the reader behind it.
-- Assumes nothing.
use Rattle.std.specs.Prelude.{List, ℕ, zero, suc, Option}
use Rattle.std.specs.Borrow.{Bor}
use Rattle.packet_reader.specs.Cursors.{Lent, behind_of, frame_at, lent_if, part_if, start_of}
use Rattle.packet_reader.specs.declared.read.Reader.{Reader}
use Rattle.packet_reader.specs.declared.read.Handed.{Handed}

abbrev pub opened : Bor (List ℕ) → Reader
opened p = record { packet = p; cursor = start_of p.now }

-- the part that a reader hands out next, if one is left
abbrev pub next_part : Reader → Option Lent
next_part r = part_if r.packet (frame_at r.packet.now r.cursor)

abbrev pub reader_behind : Reader → Reader
reader_behind r = record { packet = r.packet; cursor = behind_of r.packet.now r.cursor }

-- what a step gives: the part, and the reader behind it
abbrev pub seen : Handed → Option Lent × Reader
seen x = (lent_if x.message, x.rest)

abbrev pub step_of : Reader → Option Lent × Reader
step_of r = (next_part r, reader_behind r)

-- the reader behind so many steps
unfoldable pub stepped : ℕ → Reader → Reader
stepped zero r = r
stepped (suc n) r = stepped n (step_of r).1
