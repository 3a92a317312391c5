-- The fields told: before the first, all are left to tell.
-- Assumes nothing.
use Rattle.single.proofs.Steps.{tell_none}
use Rattle.single.proofs.messages.tell_fields.Goals as goal

pub loop-k-init : goal.loop-k-init
loop-k-init c = tell_none _ _ _ c.requires
