-- The first broken field of a Trading Session.
-- Assumes nothing.
use mathlib.Core.Path.{refl}
use Rattle.message_rules.proofs.Offsets.{told_is}
use Rattle.message_rules.proofs.trading_session.Goals as goal

pub returns : goal.returns
returns c = told_is 11 _ refl c.broken_or.ensures c.good_session.ensures refl
