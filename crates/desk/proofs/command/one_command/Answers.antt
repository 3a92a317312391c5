-- `desk::command::one_command` meets its contract, a name at a time.
-- Assumes nothing.
use mathlib.Core.Path.{◌∙◌, sym}
use Rattle.desk.specs.Commands.{one_command}
use Rattle.desk.proofs.command.one_command.Goals as goal

pub returns-then-is_name : goal.returns-then-is_name
unfolding one_command
returns-then-is_name c = simp (sym c.is_name.ensures ∙ c.if-is_name.true)

pub returns-then-is_name-2 : goal.returns-then-is_name-2
unfolding one_command
returns-then-is_name-2 c = simp (sym c.is_name-2.ensures ∙ c.if-is_name-2.true, sym c.is_name.ensures ∙ c.if-is_name.false)

pub returns-then-is_name-3 : goal.returns-then-is_name-3
unfolding one_command
returns-then-is_name-3 c = simp (sym c.is_name-3.ensures ∙ c.if-is_name-3.true, sym c.is_name-2.ensures ∙ c.if-is_name-2.false, sym c.is_name.ensures ∙ c.if-is_name.false)

pub returns-then-is_name-4 : goal.returns-then-is_name-4
unfolding one_command
returns-then-is_name-4 c = simp (sym c.is_name-4.ensures ∙ c.if-is_name-4.true, sym c.is_name-3.ensures ∙ c.if-is_name-3.false, sym c.is_name-2.ensures ∙ c.if-is_name-2.false, sym c.is_name.ensures ∙ c.if-is_name.false)

pub returns-then-is_name-5 : goal.returns-then-is_name-5
unfolding one_command
returns-then-is_name-5 c = simp (sym c.is_name-5.ensures ∙ c.if-is_name-5.true, sym c.is_name-4.ensures ∙ c.if-is_name-4.false, sym c.is_name-3.ensures ∙ c.if-is_name-3.false, sym c.is_name-2.ensures ∙ c.if-is_name-2.false, sym c.is_name.ensures ∙ c.if-is_name.false)

pub returns : goal.returns
unfolding one_command
returns c = simp (c.bytes_command.ensures, sym c.is_name-5.ensures ∙ c.if-is_name-5.false, sym c.is_name-4.ensures ∙ c.if-is_name-4.false, sym c.is_name-3.ensures ∙ c.if-is_name-3.false, sym c.is_name-2.ensures ∙ c.if-is_name-2.false, sym c.is_name.ensures ∙ c.if-is_name.false)
