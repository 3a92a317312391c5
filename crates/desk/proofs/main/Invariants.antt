-- `desk::main` is safe: the session keeps its rule.
-- Assumes nothing.
use Rattle.session.specs.Meaning.{Ruled}
use Rattle.session_owned.specs.Holding.{held_by}
use Rattle.desk.proofs.main.Given as goal

abbrev pub invariant-turns : goal.invariant-turns
invariant-turns l = Ruled (held_by l.owned)
