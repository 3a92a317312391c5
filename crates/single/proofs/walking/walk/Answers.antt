-- A walk, by the judgement and by whether the list is long enough.
-- Assumes nothing.
use Rattle.std.proofs.Common.{arith, ◌∙◌}
use Rattle.single.proofs.Taking.{header_there, refused, too_short, walkable, walked}
use Rattle.single.proofs.walking.walk.Goals as goal

pub returns-in-Err : goal.returns-in-Err
returns-in-Err c =
    let h = refused _ c.args.places.now c.args.told.now _ (c.in-Err.ensures {u = tt}) in
    record { refusal = c.number.ensures ∙ h.0; places = h.1.0; told = h.1.1 }

pub number_at-messages-requires : goal.number_at-messages-requires
number_at-messages-requires c = omega (arith, header_there c.args.packet.now c.args.places.now c.args.told.now (c.in_default.ensures {u = tt}))

pub returns-then-places-messages : goal.returns-then-places-messages
returns-then-places-messages c =
    let h = too_short _ c.args.places.now c.args.told.now (c.in_default.ensures {u = tt}) c.number_at-messages.ensures (omega (arith, c.if-places-messages.true)) in
    record { refusal = c.number-then-places-messages.ensures ∙ h.0; places = h.1.0; told = h.1.1 }

pub put-requires-clause-walkable : goal.put-requires-clause-walkable
put-requires-clause-walkable c = walkable _ c.args.places.now c.args.told.now (c.in_default.ensures {u = tt}) c.number_at-messages.ensures

pub returns : goal.returns
returns c =
    let h = walked _ c.args.places.now c.args.told.now (c.in_default.ensures {u = tt}) c.number_at-messages.ensures (omega (arith, c.if-places-messages.false)) c.put.ensures in
    record { refusal = h.0; places = h.1.0; told = h.1.1 }
