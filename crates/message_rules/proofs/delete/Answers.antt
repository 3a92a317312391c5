-- The first broken field of an Order Delete.
-- Assumes nothing.
use mathlib.Core.Path.{refl}
use Rattle.message_rules.proofs.Offsets.{told_is}
use Rattle.message_rules.proofs.delete.Goals as goal

pub returns : goal.returns
returns c = told_is 7 _ refl c.broken_or.ensures refl refl
