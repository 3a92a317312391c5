-- The first broken field of an Execution.
-- Assumes nothing.
use mathlib.Core.Path.{refl}
use Rattle.message_rules.proofs.Offsets.{told_is}
use Rattle.message_rules.proofs.execution.Goals as goal

pub returns : goal.returns
returns c = told_is 7 _ refl c.broken_or.ensures refl (told_is 21 _ refl c.broken_or-sized.ensures c.good_quantity.ensures refl)
