-- The fields told: what is left to tell, from where the loop is, is the whole of it.
-- Assumes nothing.
use Rattle.single.proofs.Steps.{Telling}
use Rattle.single.proofs.messages.tell_fields.Given as goal

abbrev pub invariant-loop-k : goal.invariant-loop-k
invariant-loop-k l = Telling l.words l.s l.initial.told l.told l.at l.k
