-- The engine: it stops at each message that touches an order, and what that message does is stored where the orders lie.
-- Assumes nothing.
use Rattle.session.specs.Meaning.{held}
use Rattle.session.specs.Engine.{Going, steps_left, task_of}
use Rattle.session.proofs.running.run.Given as goal

abbrev pub invariant-loop-point : goal.invariant-loop-point
invariant-loop-point l =
    Going (task_of (held l.fn.session l.fn.room l.fn.window) l.packets l.single l.count l.fn.answers l.due)
    l.packets l.single l.session.orders l.room l.window l.answers l.text l.point

abbrev pub decreases-loop-point : goal.decreases-loop-point
decreases-loop-point l = steps_left l.point
