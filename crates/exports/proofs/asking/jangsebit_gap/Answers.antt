-- A run by its start and its count.
-- Assumes nothing.
use mathlib.Core.Path.{ap}
use Rattle.window.specs.declared.missing.Gap.{Gap}
use Rattle.single.specs.Over.{over}
use Rattle.exports.specs.Told.{gap_numbers}
use Rattle.exports.proofs.asking.jangsebit_gap.Goals as goal

pub returns : goal.returns
returns c = ap (λ (gap : Gap). over (gap_numbers gap) c.args.told.now) c.gap-gap.ensures
