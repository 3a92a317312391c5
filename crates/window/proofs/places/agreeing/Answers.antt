-- The bytes passed agree, and the rest is what is left to compare.
-- Assumes nothing.
use mathlib.Core.Path.{◌≡◌, subst}
use Prim.Native.Nat.{ℕ, ◌+◌}
use lib.ListN.{drop, length}
use native.Mathlib.Omega.{arith}
use Rattle.window.specs.Window.{agreeing}
use Rattle.window.proofs.Agreeing.{agrees_next, differs_here, none_behind}
use Rattle.window.proofs.places.agreeing.Goals as goal

pub returns-then-there-k : goal.returns-then-there-k
returns-then-there-k c =
    omega (arith, c.loop-k.invariant, differs_here c.args.there.now c.args.message.now c.loop-k.k (omega (arith, c.loop-k-test.true, c.requires)) c.loop-k-test.true c.if-there-k.true)

pub loop-k-preserved : goal.loop-k-preserved
loop-k-preserved c =
    omega (arith, c.loop-k.invariant, agrees_next c.args.there.now c.args.message.now c.loop-k.k (omega (arith, c.loop-k-test.true, c.requires)) c.loop-k-test.true c.if-there-k.false)

pub returns : goal.returns
returns c =
    let all : c.loop-k.k ≡ length c.args.message.now = omega (arith, c.loop-k-test.false, c.loop-k.auto.k-end) in
    omega (arith, subst (λ (k : ℕ). agreeing c.args.there.now c.args.message.now ≡ k + agreeing (drop k c.args.there.now) (drop k c.args.message.now)) all c.loop-k.invariant, none_behind c.args.there.now c.args.message.now)
