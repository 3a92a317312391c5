-- Behind an answer, if there is one.
-- Assumes nothing.
use native.Mathlib.Omega.{arith}
use Rattle.window_taking.proofs.Frames.{place_after_lem}
use Rattle.window_burst.proofs.after.Goals as goal

pub overflow_add-result : goal.overflow_add-result
overflow_add-result c = omega (arith, c.requires, place_after_lem c.args.turn c.if-turn.true)

pub returns-then-turn : goal.returns-then-turn
returns-then-turn c = place_after_lem c.args.turn c.if-turn.true
