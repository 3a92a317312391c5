-- The effect of an Execution.
-- Assumes nothing.
use mathlib.Core.Path.{refl, ◌∙◌}
use Rattle.book.proofs.Arms.{execution-is}
use Rattle.message_rules.proofs.Offsets.{none_told}
use Rattle.book_deciding.proofs.execution.Goals as goal

pub returns : goal.returns
returns c seen o q p = (rw (none_told _ c.is_none.ensures c.execution-broken.ensures) at c.executed.ensures) ∙ execution-is _ seen c.requires.value c.is_value.ensures o q p c.execution-fields.ensures refl
