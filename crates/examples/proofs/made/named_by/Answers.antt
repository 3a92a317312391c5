-- `examples::made::named_by` meets its contract, a kind at a time.
-- Assumes nothing.
use borrow.Author.Rules.{rules}
use Rattle.examples.proofs.Told.{by_add, by_update, by_delete, by_execution, by_top, by_trading, by_none}
use Rattle.examples.proofs.made.named_by.Goals as goal

pub returns-in-97 : goal.returns-in-97
returns-in-97 c = by_add _ _ _ _ _ c.in-97.is c.add.ensures

pub returns-in-117 : goal.returns-in-117
returns-in-117 c = by_update _ _ _ _ _ c.in-117.is c.update.ensures

pub returns-in-100 : goal.returns-in-100
returns-in-100 c = by_delete _ _ _ _ _ c.in-100.is c.delete.ensures

pub returns-in-101 : goal.returns-in-101
returns-in-101 c = by_execution _ _ _ _ _ c.in-101.is c.execution.ensures

pub returns-in-116 : goal.returns-in-116
returns-in-116 c = by_top _ _ _ _ _ c.in-116.is c.top.ensures

pub returns-in-115 : goal.returns-in-115
returns-in-115 c = by_trading _ _ _ _ _ c.in-115.is c.trading.ensures

pub returns-in_default : goal.returns-in_default
returns-in_default c =
    by_none _ _ _ _ _ (search rules) (search rules) (search rules) (search rules) (search rules) (search rules) c.none.ensures
