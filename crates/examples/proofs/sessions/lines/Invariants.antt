-- `examples::sessions::lines` keeps the session's rule.
-- Assumes nothing.
use Rattle.session.specs.Meaning.{Ruled}
use Rattle.session_owned.specs.Holding.{held_by}
use Rattle.examples.proofs.sessions.lines.Given as goal

abbrev pub invariant-loop-line : goal.invariant-loop-line
invariant-loop-line g l = Ruled (held_by l.owned)
