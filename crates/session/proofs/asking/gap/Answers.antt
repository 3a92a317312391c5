-- One run by the window is the run by the meaning.
-- Assumes nothing.
use mathlib.Core.Path.{ap, ◌∙◌}
use Prim.Native.Nat.{ℕ, min}
use native.Mathlib.Omega.{arith}
use Rattle.session.proofs.Calls.{gap_same, numbered}
use Rattle.session.proofs.asking.gap.Goals as goal

pub returns : goal.returns
returns c = gap_same c.args.room.now c.args.window.now c.args.from (numbered c.requires.1).order c.min-limit.ensures (c.min-first.ensures ∙ ap (λ (k : ℕ). min k c.min-limit.result) c.max.ensures) c.run.ensures

pub overflow_add-next : goal.overflow_add-next
overflow_add-next c = omega (arith, (numbered c.requires.1).order, (numbered c.requires.1).top)
