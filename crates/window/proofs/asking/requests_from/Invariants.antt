-- `window::requests_from` meets its contract: what is left to write, from where the writing is, gives the whole buffer.
-- Assumes nothing.
use Prim.Native.Nat.{◌-◌}
use Rattle.window.proofs.Requests.{Going}
use Rattle.window.proofs.asking.requests_from.Given as goal

abbrev pub invariant-loop-gap : goal.invariant-loop-gap
invariant-loop-gap l = Going l.window l.from l.limit l.initial.buf l.buf l.next l.at

abbrev pub decreases-loop-gap : goal.decreases-loop-gap
decreases-loop-gap l = l.limit - l.next
