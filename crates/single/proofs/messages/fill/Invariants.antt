-- The fields put: what is left to put, from where the loop is, is the whole of it.
-- Assumes nothing.
use Rattle.single.proofs.Steps.{Filling}
use Rattle.single.proofs.messages.fill.Given as goal

abbrev pub invariant-loop-k : goal.invariant-loop-k
invariant-loop-k l = Filling l.words l.numbers l.initial.bytes l.bytes l.at l.k
