-- 128 zeros lie at the place.
-- Assumes nothing.
use mathlib.Core.Path.{◌∙◌, ap}
use Prim.Native.Nat.{ℕ, ◌*◌}
use native.Mathlib.Omega.{arith}
use lib.ListN.{length, length-replicate, replicate}
use Rattle.wire.proofs.Parts.{part_long}
use Rattle.window.specs.Window.{zeros}
use Rattle.window.proofs.Agreeing.{lent, put_over}
use Rattle.window.proofs.places.clear.Goals as goal

pub returns : goal.returns
unfolding zeros
returns c =
    let start = c.args.place * 128 in
    put_over c.args.window.now start (zeros 128) _ (length-replicate {A = ℕ} 128 0)
    (c.fill.ensures.after (λ y e. e) ∙ ap (λ (n : ℕ). replicate n 0) (ap length (lent c.args.window.now start 128 (omega (arith, c.requires, c.told-window))) ∙ part_long c.args.window.now start 128))
