-- The effect of a Top of Book.
-- Assumes nothing.
use mathlib.Core.Path.{refl, ◌∙◌}
use Rattle.book.proofs.Arms.{top-is}
use Rattle.message_rules.proofs.Offsets.{none_told}
use Rattle.book_deciding.proofs.top.Goals as goal

pub returns : goal.returns
returns c seen i h = (rw (none_told _ c.is_none.ensures c.top-broken.ensures) at c.shown.ensures) ∙ top-is _ seen i h c.top-fields.ensures refl
