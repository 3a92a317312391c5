-- One packet at each turn, until none follows.
-- Assumes nothing.
use Rattle.window_keeping.proofs.Bursts.{Going}
use Rattle.window_keeping.proofs.keep_packets.Given as goal

abbrev pub invariant-loop-window : goal.invariant-loop-window
invariant-loop-window l = Going l.initial.window l.s l.initial.answers l.next l.end l.count l.window l.answers l.turn

abbrev pub decreases-loop-window : goal.decreases-loop-window
decreases-loop-window l = l.turn.left
