-- All messages of a packet kept, the rest of them at each turn.
-- Assumes nothing.
use Prim.Native.Nat.{◌+◌, ◌-◌}
use Rattle.window_taking.proofs.Keeps.{Going}
use Rattle.window_taking.proofs.keeping.keep_all.Given as goal

abbrev pub invariant-loop-k : goal.invariant-loop-k
invariant-loop-k l = Going l.initial.window l.window l.s l.next l.first l.messages l.at l.k (l.first + l.messages - l.k) l.fresh
