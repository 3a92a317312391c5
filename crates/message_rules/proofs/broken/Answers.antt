-- `message_rules::broken` answers by the kind.
-- Assumes nothing.
use mathlib.Core.Path.{refl, ap, ◌∙◌}
use Rattle.message.specs.Layouts.{layout_of}
use Rattle.message.specs.Rules.{broken_of}
use Rattle.message.proofs.Cases.{executed-is, kind_is, other_is, tested}
use Rattle.message_rules.specs.Offsets.{offset_told}
use Rattle.message_rules.proofs.broken.Goals as goal

pub returns-in-Security : goal.returns-in-Security
unfolding broken_of layout_of
returns-in-Security c = ap offset_told (kind_is _ {r = 0} c.in-Security.is refl)

pub returns-in-SpinStart : goal.returns-in-SpinStart
unfolding broken_of layout_of
returns-in-SpinStart c = ap offset_told (kind_is _ {r = 0} c.in-SpinStart.is refl)

pub returns-in-SpinEnd : goal.returns-in-SpinEnd
unfolding broken_of layout_of
returns-in-SpinEnd c = ap offset_told (kind_is _ {r = 0} c.in-SpinEnd.is refl)

pub returns-in-TradingSession : goal.returns-in-TradingSession
unfolding broken_of layout_of
returns-in-TradingSession c = c.trading_session.ensures ∙ ap offset_told (kind_is _ c.in-TradingSession.is refl)

pub returns-in-Add : goal.returns-in-Add
unfolding broken_of layout_of
returns-in-Add c = c.add.ensures ∙ ap offset_told (kind_is _ c.in-Add.is (tested _ _ refl c.good_id.ensures))

pub returns-in-Update : goal.returns-in-Update
unfolding broken_of layout_of
returns-in-Update c = c.update.ensures ∙ ap offset_told (kind_is _ c.in-Update.is (tested _ _ refl c.good_id-in-Update.ensures))

pub returns-in-Delete : goal.returns-in-Delete
unfolding broken_of layout_of
returns-in-Delete c = c.delete.ensures ∙ ap offset_told (kind_is _ c.in-Delete.is (tested _ _ refl c.good_id-in-Delete.ensures))

pub returns-in-Execution : goal.returns-in-Execution
returns-in-Execution c = c.of_execution.ensures ∙ ap offset_told (kind_is _ c.in-Execution.is (executed-is _ _ _ _ _ _ _ _ refl c.good_id-in-Execution.ensures))

pub returns-in-Top : goal.returns-in-Top
unfolding broken_of layout_of
returns-in-Top c = c.top.ensures ∙ ap offset_told (kind_is _ c.in-Top.is refl)

pub returns-in-Trade : goal.returns-in-Trade
unfolding broken_of layout_of
returns-in-Trade c = c.trade.ensures ∙ ap offset_told (kind_is _ c.in-Trade.is refl)

pub returns-in-Other : goal.returns-in-Other
returns-in-Other c = ap offset_told (kind_is _ {r = 0} c.in-Other.is (other_is _ _ _ _))
