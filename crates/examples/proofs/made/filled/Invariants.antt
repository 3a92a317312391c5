-- `examples::made::filled` keeps the session's rule.
-- Assumes nothing.
use Rattle.session.specs.Meaning.{Ruled}
use Rattle.session_owned.specs.Holding.{held_by}
use Rattle.examples.proofs.made.filled.Given as goal

abbrev pub invariant-loop-k : goal.invariant-loop-k
invariant-loop-k l = Ruled (held_by l.owned)
