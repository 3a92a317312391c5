-- One answer; before the first packet there is none.
-- Assumes nothing.
use mathlib.Core.Path.{ap, ◌∙◌}
use mathlib.Core.List.{[], ◌∷◌}
use Prim.Native.Nat.{ℕ, ◌-◌}
use native.Mathlib.Omega.{arith}
use Rattle.wire.specs.Number.{splice}
use Rattle.window_taking.proofs.Frames.{closed, is_true, not_begun, room_for}
use Rattle.window_burst.proofs.close.Goals as goal

pub returns-then-not-turn : goal.returns-then-not-turn
returns-then-not-turn c = not_begun c.args.turn c.args.next c.args.answers.now c.if-not-turn.true

pub returns : goal.returns
returns c = closed c.args.turn c.args.next c.args.answers.now (is_true c.args.turn.begun c.if-not-turn.false) (c.put_answer.ensures ∙ ap (λ (n : ℕ). splice c.args.answers.now c.args.turn.place ((c.args.next - c.args.turn.before) ∷ n ∷ c.args.next ∷ c.args.turn.end ∷ [])) c.number-refusal.ensures)

pub overflow_sub-applied : goal.overflow_sub-applied
overflow_sub-applied c = omega (arith, c.requires.low)

pub put_answer-requires : goal.put_answer-requires
put_answer-requires c = room_for c.requires (is_true c.args.turn.begun c.if-not-turn.false)
