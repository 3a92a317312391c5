-- `window::requests_from` meets its contract: what is left to write, from where the writing is, gives the whole buffer.
-- Assumes nothing.
use Rattle.window.proofs.Requests.{going_none, going_room, going_some, going_start}
use Rattle.window.proofs.asking.requests_from.Goals as goal

pub loop-gap-init : goal.loop-gap-init
loop-gap-init c = going_start _ _ _ _ c.requires

pub returns-then-gap-eq0 : goal.returns-then-gap-eq0
returns-then-gap-eq0 c = going_none c.loop-gap.invariant c.run-gap.ensures c.if-gap-eq0.true

pub request-requires : goal.request-requires
request-requires c = going_room c.loop-gap.invariant c.run-gap.ensures c.if-gap-eq0.false

pub loop-gap-preserved : goal.loop-gap-preserved
loop-gap-preserved c = going_some c.loop-gap.invariant c.run-gap.ensures c.if-gap-eq0.false c.request.ensures
