-- The first four fields of a Security, put one behind the other, are the row put.
-- Assumes nothing.
use mathlib.Core.Path.{◌≡◌}
use lib.ListN.{length}
use Rattle.wire.proofs.Layouts.{puts_row, then}
use borrow.Author.Rules.{rules}
use Rattle.message_put.proofs.put.security_front.Goals as goal

pub returns : goal.returns
returns c =
    let long : length c.args.fields.symbol ≡ 14 = search rules in
    puts_row _ _ _ _ (long, tt) (search rules) (then _ _ (then _ _ (then _ _ c.put_text.ensures c.put_number.ensures) c.put_number-2.ensures) c.put_number-3.ensures)
