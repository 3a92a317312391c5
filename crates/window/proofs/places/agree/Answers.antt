-- All bytes are looked at at once, and one after the other where they are not the same.
-- Assumes nothing.
use mathlib.Core.Path.{◌∙◌, sym, ap}
use mathlib.Core.List.{List}
use Prim.Native.Nat.{ℕ, ◌*◌}
use native.Mathlib.Omega.{arith}
use lib.ListN.{length}
use Rattle.window.specs.Window.{agreeing}
use Rattle.window.proofs.Agreeing.{all_lent, lent}
use Rattle.window.proofs.places.agree.Goals as goal

pub returns-then-eq : goal.returns-then-eq
returns-then-eq c = all_lent c.args.window.now (c.args.place * 128) c.args.message.now (omega (arith, c.requires, c.told-window)) (sym c.eq.ensures ∙ c.if-eq.true)

pub returns : goal.returns
returns c = c.agreeing.ensures ∙ ap (λ (l : List ℕ). agreeing l c.args.message.now) (lent c.args.window.now (c.args.place * 128) (length c.args.message.now) (omega (arith, c.requires, c.told-window)))
