-- `packet_judge::judge` meets its contract: the header's tests, then the body's.
-- Assumes nothing.
use Rattle.packet.proofs.Headers.{none, passed}
use Rattle.packet.proofs.Judgements.{head_decides, beats, body_decides}
use Rattle.packet_judge.proofs.judge.Goals as goal

pub returns-in_err-tested : goal.returns-in_err-tested
returns-in_err-tested c = head_decides _ _ _ (c.in_err-tested.ensures {u = tt}) c.from_residual.ensures.1

pub fields-head-requires : goal.fields-head-requires
fields-head-requires c = (passed _ (none _ (c.in_ok-tested.ensures {u = tt}))).least

pub returns-then-head-eq1 : goal.returns-then-head-eq1
returns-then-head-eq1 c = beats _ (c.in_ok-tested.ensures {u = tt}) c.fields-head.ensures c.if-head-eq1.true

pub walk-fault-requires : goal.walk-fault-requires
walk-fault-requires c = (passed _ (none _ (c.in_ok-tested.ensures {u = tt}))).least

pub returns : goal.returns
returns c = body_decides _ (c.in_ok-tested.ensures {u = tt}) c.fields-head.ensures c.if-head-eq1.false c.walk-fault.ensures c.body.ensures
