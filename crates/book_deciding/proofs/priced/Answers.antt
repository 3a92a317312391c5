-- The effect of an Execution with Price.
-- Assumes nothing.
use mathlib.Core.Path.{refl, ◌∙◌}
use Rattle.book.proofs.Arms.{priced-is}
use Rattle.message_rules.proofs.Offsets.{none_told}
use Rattle.book_deciding.proofs.priced.Goals as goal

pub returns : goal.returns
returns c seen o q p = (rw (none_told _ c.is_none.ensures c.priced-broken.ensures) at c.executed.ensures) ∙ priced-is _ seen c.requires.value c.is_value.ensures o q p c.priced-fields.ensures refl
