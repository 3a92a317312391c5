-- `capture::open_at_first` keeps the session's rule, and that it is a strict one.
-- Assumes nothing.
use Rattle.capture.proofs.Strict.{opened_strictly}
use Rattle.capture.proofs.open_at_first.Goals as goal

pub returns-in-Some : goal.returns-in-Some
returns-in-Some c = opened_strictly _ c.reopen.ensures.opened c.reopen.ensures.rule
