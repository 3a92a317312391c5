-- The engine until a message touches an order: each turn of the loop is one step of the definition.
-- Assumes nothing.
use Rattle.session.specs.Engine.{between_of, turns_left}
use Rattle.session.proofs.Engine.{Onward}
use Rattle.session.proofs.advancing.advance.Given as goal

abbrev pub invariant-loop-size : goal.invariant-loop-size
invariant-loop-size l = Onward l.packets l.single l.initial.room l.initial.window l.initial.answers l.initial.text (between_of l.initial.next l.initial.turn l.initial.rest) l.room l.window l.answers l.text (between_of l.next l.turn l.rest)

abbrev pub decreases-loop-size : goal.decreases-loop-size
decreases-loop-size l = turns_left l.turn l.next l.rest
