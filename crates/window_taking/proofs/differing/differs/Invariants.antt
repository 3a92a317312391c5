-- All messages of a packet against what waits, the rest of them at each turn.
-- Assumes nothing.
use Prim.Native.Nat.{◌+◌, ◌-◌}
use Rattle.window_taking.proofs.Differs.{Seeking}
use Rattle.window_taking.proofs.differing.differs.Given as goal

abbrev pub invariant-loop-k : goal.invariant-loop-k
invariant-loop-k l = Seeking l.window l.s l.next l.first l.messages l.at l.k (l.first + l.messages - l.k)
