-- `capture::replay` keeps the session's rule and the strict one of its opening, stays within the bytes, and ends: each record has its head.
-- Assumes nothing.
use Rattle.std.proofs.Common.{◌≤◌, ◌-◌, length}
use Rattle.session_owned.specs.Holding.{held_by}
use Rattle.capture.specs.Replays.{Strictly}
use Rattle.capture.proofs.replay.Given as goal

abbrev pub invariant-loop-size : goal.invariant-loop-size
invariant-loop-size g l = Strictly (held_by l.owned) × (l.at ≤ length l.bytes)

abbrev pub decreases-loop-size : goal.decreases-loop-size
decreases-loop-size g l = length l.bytes - l.at
