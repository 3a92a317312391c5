-- The refusal of its number.
-- Assumes nothing.
use Rattle.session.proofs.Calls.{answer_some}
use Rattle.session.proofs.packets.answer_by.Goals as goal

pub returns-in-Ok : goal.returns-in-Ok
returns-in-Ok c = answer_some c.args.applied c.args.refusal c.in-Ok.ensures
