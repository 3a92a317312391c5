-- The packet behind the one at hand.
-- Assumes nothing.
use mathlib.Core.Path.{ap, ◌∙◌}
use Prim.Native.Nat.{ℕ, ◌-◌}
use native.Mathlib.Omega.{arith}
use Rattle.window_taking.specs.Keeping.{state_of}
use Rattle.window_taking.specs.Turns.{turn_of}
use Rattle.window_burst.proofs.follow.Goals as goal

pub returns : goal.returns
returns c = record { turn = c.begin.ensures.turn ∙ ap (λ (n : ℕ). turn_of (state_of c.args.window.now c.args.next c.args.turn.end) c.args.single c.args.s.now c.args.turn.at (c.args.turn.left - 1) n) c.after-place.ensures; kept = c.begin.ensures.kept }

pub overflow_sub-left : goal.overflow_sub-left
overflow_sub-left c = omega (arith, c.requires.follows.left)

pub after-place-requires : goal.after-place-requires
after-place-requires c = c.requires.follows.place

pub begin-requires : goal.begin-requires
begin-requires c = record { neat = c.requires.neat; lies = c.requires.follows.lies; known = c.requires.known }
