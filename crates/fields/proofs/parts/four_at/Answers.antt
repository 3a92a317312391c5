-- `four_at` adds the four characters up, each in its own byte.
use Rattle.fields.proofs.Four.{summed}
use Rattle.fields.proofs.parts.four_at.Goals as goal

pub returns : goal.returns
returns c = summed _ _ _ _ c.wide.ensures c.wide-2.ensures c.wide-3.ensures c.wide-4.ensures
