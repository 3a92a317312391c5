-- Each turn puts so many bytes more, and the last come behind the loop.
-- Assumes nothing.
use Prim.Native.Nat.{◌-◌}
use lib.ListN.{length}
use Rattle.window.proofs.Steps.{Copied}
use Rattle.window.proofs.copying.put_by.Given as goal

abbrev pub invariant-loop-k : goal.invariant-loop-k
invariant-loop-k g l = Copied l.initial.buf l.at l.text l.buf l.k

abbrev pub decreases-loop-k : goal.decreases-loop-k
decreases-loop-k g l = length l.text - l.k
