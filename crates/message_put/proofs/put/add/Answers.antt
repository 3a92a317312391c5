-- The time and the id, what is offered, then the other fields, are the row put.
-- Assumes nothing.
use mathlib.Core.Path.{◌≡◌}
use mathlib.Core.List.{[], ◌∷◌}
use Prim.Native.Nat.{◌≤◌}
use native.Mathlib.Omega.{arith}
use lib.ListN.{length}
use Rattle.wire.specs.Layout.{number, number_is, text, text_is}
use Rattle.wire.proofs.Layouts.{parts_row, row_then, then}
use borrow.Author.Rules.{rules}
use Rattle.message_put.proofs.put.add.Goals as goal

pub returns : goal.returns
returns c =
    let id-long : length c.args.fields.named.id ≡ 14 = search rules in
    let symbol-long : length c.args.fields.deal.symbol ≡ 14 = search rules in
    let firm-long : length c.args.fields.firm ≡ 4 = search rules in
    let room : c.args.at ≤ length c.args.buf.now = omega (arith, c.requires) in
    let front = parts_row _ _ _ _ _ _ (id-long, tt) room c.named.ensures c.deal.ensures in
    row_then _ (text 4 ∷ number 1 ∷ number 2 ∷ []) _ (text_is _ ∷ number_is _ ∷ number_is _ ∷ []) _ _ (id-long, (symbol-long, tt)) (firm-long, tt) room front (then _ _ (then _ _ c.put_text.ensures c.put_number.ensures) c.put_number-2.ensures)
