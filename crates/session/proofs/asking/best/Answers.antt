-- Handed on, with the live orders.
-- Assumes nothing.
use Rattle.session.proofs.Answers.{live_few}
use Rattle.session.proofs.asking.best.Goals as goal

pub shared_ref_as_front-best : goal.shared_ref_as_front-best
shared_ref_as_front-best c = live_few c.requires.1
