-- `desk::command::three_command` meets its contract, a name at a time.
-- Assumes nothing.
use mathlib.Core.Path.{◌∙◌, sym}
use Rattle.desk.specs.Commands.{three_command}
use Rattle.desk.proofs.command.three_command.Goals as goal

pub returns-then-is_name : goal.returns-then-is_name
unfolding three_command
returns-then-is_name c = simp (sym c.is_name.ensures ∙ c.if-is_name.true)

pub returns : goal.returns
unfolding three_command
returns c = simp (c.named.ensures, sym c.is_name.ensures ∙ c.if-is_name.false)
