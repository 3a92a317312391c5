-- Where each message lies goes over the list: what is left of it, from where the loop is, is the whole of it.
-- Assumes nothing.
use Rattle.single.proofs.Taking.{Taking}
use Rattle.single.proofs.walking.put.Given as goal

abbrev pub invariant-loop-i : goal.invariant-loop-i
invariant-loop-i l = Taking l.s l.messages l.initial.places l.places l.at l.i
