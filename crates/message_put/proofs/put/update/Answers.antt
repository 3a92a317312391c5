-- The time and the id, then the other fields, are the row put.
-- Assumes nothing.
use mathlib.Core.Path.{◌≡◌}
use mathlib.Core.List.{[], ◌∷◌}
use Prim.Native.Nat.{◌≤◌}
use native.Mathlib.Omega.{arith}
use lib.ListN.{length}
use Rattle.wire.specs.Layout.{number, number_is}
use Rattle.wire.proofs.Layouts.{row_then, then}
use borrow.Author.Rules.{rules}
use Rattle.message_put.proofs.put.update.Goals as goal

pub returns : goal.returns
returns c =
    let long : length c.args.fields.named.id ≡ 14 = search rules in
    let room : c.args.at ≤ length c.args.buf.now = omega (arith, c.requires) in
    row_then _ (number 4 ∷ number 8 ∷ number 2 ∷ []) _ (number_is _ ∷ number_is _ ∷ number_is _ ∷ []) _ _ (long, tt) tt room c.named.ensures (then _ _ (then _ _ c.put_number.ensures c.put_number-2.ensures) c.put_number-3.ensures)
