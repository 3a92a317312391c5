-- The table's entry of each listed type is its payload.
-- Assumes nothing.
use mathlib.Core.Path.{refl, ◌∙◌, ap, sym, subst}
use Prim.Native.Nat.{ℕ, ◌<◌}
use Rattle.message.specs.Table.{payload_of, payload_table, tabulate}
use Rattle.message.proofs.Cases.{needed}
use Rattle.message.proofs.Listed.{small_number}
use Rattle.message.proofs.types.Kind.payload.Goals as goal

pub returns : goal.returns
unfolding payload_table tabulate payload_of
returns c = needed _ _ refl (subst (λ (n : ℕ). n < 32) (sym c.number.ensures) (small_number _)) ∙ ap payload_of c.number.ensures
