-- The first broken field of a Trade.
-- Assumes nothing.
use mathlib.Core.Path.{refl}
use Rattle.message_rules.proofs.Offsets.{told_is}
use Rattle.message_rules.proofs.trade.Goals as goal

pub returns : goal.returns
returns c = told_is 7 _ refl c.broken_or.ensures c.good_trade_side.ensures (told_is 8 _ refl c.dealt-behind.ensures refl (told_is 12 _ refl refl refl (told_is 26 _ refl refl refl refl)))
