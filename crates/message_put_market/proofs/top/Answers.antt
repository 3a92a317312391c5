-- The time and the symbol, the two sides and the last field, one behind the other, are the row put.
-- Assumes nothing.
use mathlib.Core.Path.{◌≡◌}
use mathlib.Core.List.{[], ◌∷◌}
use Prim.Native.Nat.{◌≤◌}
use native.Mathlib.Omega.{arith}
use lib.ListN.{length}
use Rattle.wire.specs.Layout.{number, number_is, text, text_is}
use Rattle.wire.proofs.Layouts.{parts_row, puts_row, row_then, then}
use borrow.Author.Rules.{rules}
use Rattle.message_put_market.proofs.top.Goals as goal

pub returns : goal.returns
returns c =
    let long : length c.args.fields.symbol ≡ 14 = search rules in
    let room : c.args.at ≤ length c.args.buf.now = omega (arith, c.requires) in
    let front = puts_row (number 4 ∷ text 14 ∷ []) (number_is _ ∷ text_is _ ∷ []) _ _ (long, tt) room (then _ _ c.put_number.ensures c.put_text.ensures) in
    let sides = parts_row _ _ _ _ _ _ (long, tt) room (parts_row _ _ _ _ _ _ (long, tt) room front c.quote.ensures) c.quote-2.ensures in
    row_then _ (number 1 ∷ []) _ (number_is _ ∷ []) _ _ (long, tt) tt room sides c.put_number-2.ensures
