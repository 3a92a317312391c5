-- The last five fields of a Security, put one behind the other, are the row put.
-- Assumes nothing.
use Rattle.wire.proofs.Layouts.{puts_row, then}
use borrow.Author.Rules.{rules}
use Rattle.message_put.proofs.put.security_back.Goals as goal

pub returns : goal.returns
returns c =
    puts_row _ _ _ _ tt (search rules) (then _ _ (then _ _ (then _ _ (then _ _ c.put_number.ensures c.put_number-2.ensures) c.put_number-3.ensures) c.put_number-4.ensures) c.put_number-5.ensures)
