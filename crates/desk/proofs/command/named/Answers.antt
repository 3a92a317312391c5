-- `desk::command::named` meets its contract.
-- Assumes nothing.
use mathlib.Core.Path.{◌∙◌, sym}
use Rattle.desk.specs.Commands.{named_of}
use Rattle.desk.proofs.command.named.Goals as goal

pub returns-then-is_name : goal.returns-then-is_name
unfolding named_of
returns-then-is_name c = simp (sym c.is_name.ensures ∙ c.if-is_name.true)

pub returns : goal.returns
unfolding named_of
returns c = simp (sym c.is_name.ensures ∙ c.if-is_name.false)
