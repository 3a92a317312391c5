-- The first broken field of a Top of Book.
-- Assumes nothing.
use mathlib.Core.Path.{refl}
use Rattle.message_rules.proofs.Offsets.{told_is}
use Rattle.message_rules.proofs.top.Goals as goal

pub returns : goal.returns
returns c = told_is 7 _ refl c.broken_or.ensures c.good_symbol.ensures (told_is 21 _ refl c.broken_or-asked.ensures c.good_inside_price-2.ensures (told_is 33 _ refl c.broken_or-bidden.ensures c.good_inside_price.ensures (told_is 45 _ refl c.broken_or-told.ensures c.good_unsolicited.ensures refl)))
