-- The fields of a Trading Session, put one behind the other, are the row put.
-- Assumes nothing.
use Rattle.wire.proofs.Layouts.{puts_row, then}
use borrow.Author.Rules.{rules}
use Rattle.message_put.proofs.put.trading_session.Goals as goal

pub returns : goal.returns
returns c =
    puts_row _ _ _ _ tt (search rules) (then _ _ c.put_number.ensures c.put_number-2.ensures)
