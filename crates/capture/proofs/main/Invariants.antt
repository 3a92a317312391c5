-- `capture::main` is safe: the session keeps its rule, the strict one of its opening, and what is held stays within the buffer.
-- Assumes nothing.
use Rattle.std.proofs.Common.{◌≤◌, length}
use Rattle.session_owned.specs.Holding.{held_by}
use Rattle.capture.specs.Replays.{Strictly}
use Rattle.capture.proofs.main.Given as goal

abbrev pub invariant-reads : goal.invariant-reads
invariant-reads l = Strictly (held_by l.owned) × (l.from ≤ l.to) × (l.to ≤ length l.buf)
