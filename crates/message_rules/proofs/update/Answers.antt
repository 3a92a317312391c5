-- The first broken field of an Order Update.
-- Assumes nothing.
use mathlib.Core.Path.{refl}
use Rattle.message_rules.proofs.Offsets.{told_is}
use Rattle.message_rules.proofs.update.Goals as goal

pub returns : goal.returns
returns c = told_is 7 _ refl c.broken_or.ensures refl (told_is 21 _ refl c.broken_or-sized.ensures c.good_quantity.ensures (told_is 25 _ refl c.broken_or-priced.ensures c.good_price.ensures refl))
