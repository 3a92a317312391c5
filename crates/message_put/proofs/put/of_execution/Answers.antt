-- An execution's fields, with its own price behind them where it has one, are the row of its terms put.
-- Assumes nothing.
use mathlib.Core.Path.{◌≡◌}
use mathlib.Core.List.{[], ◌∷◌}
use Prim.Native.Nat.{◌≤◌}
use native.Mathlib.Omega.{arith}
use lib.ListN.{length}
use Rattle.wire.specs.Layout.{number, number_is}
use Rattle.wire.proofs.Layouts.{row_then, then}
use Rattle.message.specs.Layouts.{layout_of}
use Rattle.message_put.proofs.ByKind.{terms_least, terms_put, terms_room}
use borrow.Author.Rules.{rules}
use Rattle.message_put.proofs.put.of_execution.Goals as goal

pub put_number-requires-in-Own : goal.put_number-requires-in-Own
unfolding layout_of
put_number-requires-in-Own c =
    omega (arith, terms_room _ _ c.in-Own.is c.requires)

pub returns-in-Published : goal.returns-in-Published
unfolding layout_of
returns-in-Published c =
    let long : length c.args.fields.named.id ≡ 14 = search rules in
    let room : c.args.at ≤ length c.args.buf.now = omega (arith, c.requires) in
    terms_put _ _ _ _ _ _ _ c.in-Published.is (row_then _ (number 4 ∷ number 4 ∷ number 8 ∷ []) _ (number_is _ ∷ number_is _ ∷ number_is _ ∷ []) _ _ (long, tt) tt room c.named.ensures (then _ _ (then _ _ c.put_number.ensures c.put_number-2.ensures) c.put_number-3.ensures))

pub returns-in-Own : goal.returns-in-Own
unfolding layout_of
returns-in-Own c =
    let long : length c.args.fields.named.id ≡ 14 = search rules in
    let room : c.args.at ≤ length c.args.buf.now = omega (arith, c.requires) in
    terms_put _ _ _ _ _ _ _ c.in-Own.is (row_then _ (number 4 ∷ number 4 ∷ number 8 ∷ number 8 ∷ []) _ (number_is _ ∷ number_is _ ∷ number_is _ ∷ number_is _ ∷ []) _ _ (long, tt) tt room c.named.ensures (then _ _ (then _ _ (then _ _ c.put_number.ensures c.put_number-2.ensures) c.put_number-3.ensures) c.put_number-in-Own.ensures))

pub named-requires : goal.named-requires
named-requires c = omega (arith, terms_least c.args.terms _ _ c.requires)

pub put_number-requires : goal.put_number-requires
put_number-requires c = omega (arith, terms_least c.args.terms _ _ c.requires)

pub put_number-requires-2 : goal.put_number-requires-2
put_number-requires-2 c = omega (arith, terms_least c.args.terms _ _ c.requires)

pub put_number-requires-3 : goal.put_number-requires-3
put_number-requires-3 c = omega (arith, terms_least c.args.terms _ _ c.requires)
