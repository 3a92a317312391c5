-- `desk::command::is_name` meets its contract.
-- Assumes nothing.
use Rattle.desk.proofs.Commands.{name_is}
use Rattle.desk.proofs.command.is_name.Goals as goal

pub returns : goal.returns
returns c = name_is _ _ _ c.same.ensures.0 c.same.ensures.1
