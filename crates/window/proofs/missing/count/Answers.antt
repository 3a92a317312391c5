-- `window::count` meets its contract: the runs counted and those from here on are all of them.
-- Assumes nothing.
use borrow.Author.Rules.{rules}
use mathlib.Core.Path.{ap}
use native.Mathlib.Omega.{arith}
use lib.ListN.{length}
use Rattle.window.proofs.Splits.{gap_none, gap_some, up_to}
use Rattle.window.proofs.missing.count.Goals as goal

pub loop-next-init : goal.loop-next-init
unfolding up_to
loop-next-init c = search rules

pub returns-then-next-eq0 : goal.returns-then-next-eq0
returns-then-next-eq0 c = let e = ap length (gap_none c.run-next.ensures c.loop-next.invariant.1.0 c.if-next-eq0.true) in record { is = omega arith; most = omega arith }

pub loop-next-preserved : goal.loop-next-preserved
loop-next-preserved c = omega (arith, ap length (gap_some c.run-next.ensures c.loop-next.invariant.1.0 c.if-next-eq0.false))
