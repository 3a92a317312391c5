-- `window::run` meets its contract: a run starts at the first number that is missing and stops at the next that is not.
-- Assumes nothing.
use mathlib.Core.Path.{refl}
use Rattle.window.proofs.FirstNumber.{is_run}
use borrow.Author.Rules.{rules}
use Rattle.window.proofs.missing.run.Goals as goal

pub returns : goal.returns
returns c = is_run (search rules) c.first_number-start.ensures c.first_number-stop.ensures refl refl
