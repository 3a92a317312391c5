-- `packet::walk::walk` meets its contract: what is left of the walk, from where it is, is the whole walk.
-- Assumes nothing.
use Rattle.std.proofs.Common.{◌∙◌, sym}
use native.Mathlib.Omega.{arith}
use Rattle.packet.proofs.Walking.{walk_stops, walk_goes, found_lies, left_over, all_there}
use Rattle.packet_judge.proofs.walk.walk.Goals as goal

pub returns-in_default : goal.returns-in_default
returns-in_default c = walk_stops _ _ _ (omega (arith, c.loop-test.true)) (c.in_default.ensures {u = tt}) ∙ sym c.loop.invariant.1

pub overflow_add-at : goal.overflow_add-at
overflow_add-at c = omega (arith, (found_lies _ _ (c.in-Some.ensures {u = tt})).within)

pub loop-preserved : goal.loop-preserved
loop-preserved c = (
  (found_lies _ _ (c.in-Some.ensures {u = tt})).within,
  c.loop.invariant.1 ∙ walk_goes _ _ (c.in-Some.ensures {u = tt}) _ _ (omega (arith, c.loop-test.true)),
)

pub returns-then-at-s : goal.returns-then-at-s
returns-then-at-s c = left_over _ _ _ (omega (arith, c.loop-test.false)) c.if-at-s.true ∙ sym c.loop.invariant.1

pub returns : goal.returns
returns c = all_there _ _ _ (omega (arith, c.loop-test.false)) c.if-at-s.false ∙ sym c.loop.invariant.1
