-- `packet::walk::walk` meets its contract: what is left of the walk, from where it is, is the whole walk.
-- Assumes nothing.
use Rattle.std.proofs.Common.{◌≡◌, ◌-◌, ◌≤◌, length}
use Rattle.packet.specs.Walk.{walk_from}
use Rattle.packet_judge.proofs.walk.walk.Given as goal

abbrev pub invariant-loop : goal.invariant-loop
invariant-loop l = (l.at ≤ length l.s) × (walk_from l.messages 12 l.s ≡ walk_from (l.messages - l.counter) l.at l.s)
