-- Where each message lies goes over the list: what is left of it, from where the loop is, is the whole of it.
-- Assumes nothing.
use Rattle.std.proofs.Common.{arith}
use Rattle.single.proofs.Taking.{all, here, more}
use Rattle.single.proofs.walking.put.Goals as goal

pub number_at-size-requires : goal.number_at-size-requires
number_at-size-requires c =
    let l = here _ _ _ _ _ _ c.loop-i.invariant c.loop-i-test.true in
    omega (arith, l.least, l.within)

pub loop-i-preserved : goal.loop-i-preserved
loop-i-preserved c = more _ _ _ _ _ _ c.loop-i.invariant c.loop-i-test.true c.number_at-size.ensures

pub returns : goal.returns
returns c = all _ _ _ _ _ _ c.loop-i.invariant c.loop-i-test.false
