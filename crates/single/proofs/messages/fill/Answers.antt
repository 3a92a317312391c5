-- The fields put: what is left to put, from where the loop is, is the whole of it.
-- Assumes nothing.
use Rattle.single.proofs.Steps.{fill_all, fill_more, fill_none}
use Rattle.single.proofs.messages.fill.Goals as goal

pub loop-k-init : goal.loop-k-init
loop-k-init c = fill_none _ _ _ c.requires

pub loop-k-preserved : goal.loop-k-preserved
loop-k-preserved c =
    fill_more _ _ _ _ _ _ c.loop-k.invariant c.loop-k-test.true c.too_wide.ensures c.if-too_wide.false c.put_number.ensures c.bytes-at.ensures

pub returns-clause-bytes : goal.returns-clause-bytes
returns-clause-bytes c = λ e. fill_all _ _ _ _ _ _ c.loop-k.invariant c.loop-k-test.false
