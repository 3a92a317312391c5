-- Eight bytes, and eight from the sixth on.
-- Assumes nothing.
use mathlib.Core.Path.{ap, ◌∙◌}
use mathlib.Core.List.{List}
use Prim.Native.Nat.{ℕ}
use Rattle.wire.specs.Number.{be, splice}
use Rattle.session.proofs.asking.symbol_by.Goals as goal

pub returns : goal.returns
unfolding splice
returns c = c.put_number-2.ensures ∙ ap (λ (l : List ℕ). splice l 6 (be 8 c.args.last)) c.put_number.ensures
