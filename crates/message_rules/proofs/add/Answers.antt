-- The first broken field of an Order Add.
-- Assumes nothing.
use mathlib.Core.Path.{refl}
use Rattle.message_rules.proofs.Offsets.{told_is}
use Rattle.message_rules.proofs.add.Goals as goal

pub returns : goal.returns
returns c = told_is 7 _ refl c.broken_or.ensures refl (told_is 21 _ refl c.broken_or-sided.ensures c.good_side.ensures (told_is 22 _ refl c.dealt-behind.ensures refl (told_is 26 _ refl refl refl (told_is 40 _ refl refl refl (told_is 52 _ refl c.broken_or-told.ensures c.good_unsolicited.ensures refl)))))
