-- `wire::text_at` meets its contract: a part is what stands there.
-- Assumes nothing.
use Rattle.std.proofs.Common.{◌∙◌}
use Rattle.wire.proofs.Place.{part-range}
use Rattle.wire.proofs.read.text_at.Goals as goal

pub returns : goal.returns
returns g c = c.copy_from_slice.ensures.after ∙ part-range c.args.s.now c.args.at g.row.N c.requires
