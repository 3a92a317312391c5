-- The effect of an Order Delete.
-- Assumes nothing.
use mathlib.Core.Path.{refl, ◌∙◌}
use Rattle.book.proofs.Arms.{delete-is}
use Rattle.message_rules.proofs.Offsets.{none_told}
use Rattle.book_deciding.proofs.delete.Goals as goal

pub returns : goal.returns
returns c seen o = (rw (none_told _ c.is_none.ensures c.delete-broken.ensures) at c.deleted.ensures) ∙ delete-is _ seen c.requires.value c.is_value.ensures o refl
