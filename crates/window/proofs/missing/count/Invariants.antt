-- `window::count` meets its contract: the runs counted and those from here on are all of them.
-- Assumes nothing.
use mathlib.Core.Path.{◌≡◌}
use Prim.Native.Nat.{◌≤◌, ◌+◌, ◌-◌}
use lib.ListN.{length}
use Rattle.window.specs.Runs.{missing_in, runs_of}
use Rattle.window.proofs.Splits.{up_to}
use Rattle.window.proofs.missing.count.Given as goal

abbrev pub invariant-loop-next : goal.invariant-loop-next
invariant-loop-next l = (l.from ≤ l.at) × ((l.at ≤ l.limit) × ((l.n ≤ l.at - l.from) × (length (runs_of (missing_in l.window) l.from (l.limit - l.from)) ≡ l.n + length (up_to (missing_in l.window) l.limit l.at))))

abbrev pub decreases-loop-next : goal.decreases-loop-next
decreases-loop-next l = l.limit - l.at
