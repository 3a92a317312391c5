-- `desk::command::bytes_command` meets its contract, a name at a time.
-- Assumes nothing.
use mathlib.Core.Path.{◌∙◌, sym}
use Rattle.desk.specs.Commands.{bytes_command}
use Rattle.desk.proofs.command.bytes_command.Goals as goal

pub returns-then-is_name : goal.returns-then-is_name
unfolding bytes_command
returns-then-is_name c = simp (sym c.is_name.ensures ∙ c.if-is_name.true)

pub returns-then-is_name-2 : goal.returns-then-is_name-2
unfolding bytes_command
returns-then-is_name-2 c = simp (sym c.is_name-2.ensures ∙ c.if-is_name-2.true, sym c.is_name.ensures ∙ c.if-is_name.false)

pub returns-then-is_name-3 : goal.returns-then-is_name-3
unfolding bytes_command
returns-then-is_name-3 c = simp (sym c.is_name-3.ensures ∙ c.if-is_name-3.true, sym c.is_name-2.ensures ∙ c.if-is_name-2.false, sym c.is_name.ensures ∙ c.if-is_name.false)

pub returns : goal.returns
unfolding bytes_command
returns c = simp (c.named.ensures, sym c.is_name-3.ensures ∙ c.if-is_name-3.false, sym c.is_name-2.ensures ∙ c.if-is_name-2.false, sym c.is_name.ensures ∙ c.if-is_name.false)
