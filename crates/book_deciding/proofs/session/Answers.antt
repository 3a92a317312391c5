-- The effect of a Trading Session.
-- Assumes nothing.
use mathlib.Core.Path.{refl, ◌∙◌}
use Rattle.book.proofs.Arms.{session_is}
use Rattle.message_rules.proofs.Offsets.{none_told}
use Rattle.book_deciding.proofs.session.Goals as goal

pub returns : goal.returns
returns c seen = (rw (none_told _ c.is_none.ensures c.trading_session-broken.ensures) at c.kept.ensures) ∙ session_is _ seen c.trading_session-fields.ensures refl
