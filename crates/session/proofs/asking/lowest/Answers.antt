-- The first number from next on that is missing.
-- Assumes nothing.
use native.Mathlib.Omega.{arith}
use Rattle.session.proofs.Calls.{lowest_is, numbered}
use Rattle.session.proofs.asking.lowest.Goals as goal

pub returns : goal.returns
returns c = lowest_is c.args.room.now c.args.window.now c.first_number.ensures.is

pub overflow_add-next : goal.overflow_add-next
overflow_add-next c = omega (arith, (numbered c.requires.1).order, (numbered c.requires.1).top)
