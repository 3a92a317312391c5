-- `packet::read_header` meets its contract: the test that decides, or the fields.
-- Assumes nothing.
use Rattle.packet.proofs.Headers.{none, passed, refused_by, whole}
use Rattle.packet.proofs.header.read_header.Goals as goal

pub returns-in_err-tested : goal.returns-in_err-tested
returns-in_err-tested c = refused_by _ _ (c.in_err-tested.ensures {u = tt}) c.from_residual.ensures.1

pub fields-requires : goal.fields-requires
fields-requires c = (passed _ (none _ (c.in_ok-tested.ensures {u = tt}))).least

pub returns : goal.returns
returns c = whole _ (none _ (c.in_ok-tested.ensures {u = tt})) c.fields.ensures
