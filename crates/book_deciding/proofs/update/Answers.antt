-- The effect of an Order Update.
-- Assumes nothing.
use mathlib.Core.Path.{refl, ◌∙◌}
use Rattle.book.proofs.Arms.{update-is}
use Rattle.message_rules.proofs.Offsets.{none_told}
use Rattle.book_deciding.proofs.update.Goals as goal

pub returns : goal.returns
returns c seen o = (rw (none_told _ c.is_none.ensures c.update-broken.ensures) at c.updated.ensures) ∙ update-is _ seen c.requires.value c.is_value.ensures o c.update-fields.ensures refl
