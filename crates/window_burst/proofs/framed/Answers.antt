-- A packet behind its length.
-- Assumes nothing.
use Rattle.window_taking.proofs.Frames.{framed_is}
use Rattle.window_burst.proofs.framed.Goals as goal

pub returns : goal.returns
returns c = framed_is c.args.s.now c.args.at c.number_at-size.ensures
