-- The effect of a Trade.
-- Assumes nothing.
use mathlib.Core.Path.{refl, ◌∙◌}
use Rattle.book.proofs.Arms.{trade-is}
use Rattle.message_rules.proofs.Offsets.{none_told}
use Rattle.book_deciding.proofs.trade.Goals as goal

pub returns : goal.returns
returns c seen = (rw (none_told _ c.is_none.ensures c.trade-broken.ensures) at c.kept.ensures) ∙ trade-is _ seen c.trade-fields.ensures refl
