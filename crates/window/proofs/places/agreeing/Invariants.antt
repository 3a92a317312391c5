-- The bytes passed agree, and the rest is what is left to compare.
-- Assumes nothing.
use mathlib.Core.Path.{◌≡◌}
use Prim.Native.Nat.{◌+◌}
use lib.ListN.{drop}
use Rattle.window.specs.Window.{agreeing}
use Rattle.window.proofs.places.agreeing.Given as goal

abbrev pub invariant-loop-k : goal.invariant-loop-k
invariant-loop-k l = agreeing l.there l.message ≡ l.k + agreeing (drop l.k l.there) (drop l.k l.message)
