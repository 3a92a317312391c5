-- The time, what was exchanged and the last two fields, one behind the other, are the row put.
-- Assumes nothing.
use mathlib.Core.Path.{◌≡◌}
use mathlib.Core.List.{[], ◌∷◌}
use Prim.Native.Nat.{◌≤◌}
use native.Mathlib.Omega.{arith}
use lib.ListN.{length}
use Rattle.wire.specs.Layout.{number, number_is}
use Rattle.wire.proofs.Layouts.{number_row, parts_row, row_then, then}
use borrow.Author.Rules.{rules}
use Rattle.message_put_market.proofs.trade.Goals as goal

pub returns : goal.returns
returns c =
    let long : length c.args.fields.deal.symbol ≡ 14 = search rules in
    let room : c.args.at ≤ length c.args.buf.now = omega (arith, c.requires) in
    let front = parts_row _ _ _ _ _ _ tt room (number_row 4 c.args.fields.time _ _ c.put_number.ensures) c.deal.ensures in
    row_then _ (number 8 ∷ number 8 ∷ []) _ (number_is _ ∷ number_is _ ∷ []) _ _ (long, tt) tt room front (then _ _ c.put_number-2.ensures c.put_number-3.ensures)
