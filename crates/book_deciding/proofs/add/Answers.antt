-- The effect of an Order Add.
-- Assumes nothing.
use mathlib.Core.Path.{refl, ◌∙◌}
use Rattle.book.proofs.Arms.{add_is}
use Rattle.message_rules.proofs.Offsets.{none_told}
use Rattle.book_deciding.proofs.add.Goals as goal

pub returns : goal.returns
returns c seen o l = (rw (none_told _ c.is_none.ensures c.add-broken.ensures) at c.added.ensures) ∙ add_is _ seen c.requires.value c.is_value.ensures o l c.add-fields.ensures refl
