-- `packet_reader::number::cursor_of` meets its contract: the messages still to be passed, from where the cursor is, lead to the same cursor.
-- Assumes nothing.
use Rattle.std.proofs.Common.{◌≡◌, ◌-◌}
use Rattle.packet_reader.specs.Cursors.{after_of, start_of}
use Rattle.packet_reader.proofs.number.cursor_of.Given as goal

abbrev pub invariant-loop : goal.invariant-loop
invariant-loop l = after_of l.i l.s (start_of l.s) ≡ after_of (l.i - l.counter) l.s l.at
