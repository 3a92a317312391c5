-- Each turn of the walk stands at a cell of the chain behind the place, and the cells fall.
-- Assumes nothing.
use mathlib.Core.Path.{◌≡◌}
use mathlib.Core.List.{List}
use Prim.Native.Nat.{ℕ, ◌<◌}
use Rattle.book_index.specs.Chains.{chain_of, index_by}
use Rattle.book_index.proofs.Walks.{Nearing}
use Rattle.book_index.proofs.behind.Given as goal

abbrev pub invariant-loop-after : goal.invariant-loop-after
invariant-loop-after l = (l.cell < 765) × ((chains : List ℕ) → l.index ≡ index_by chains → Nearing chains (chain_of l.key) l.place l.cell)

abbrev pub decreases-loop-after : goal.decreases-loop-after
decreases-loop-after l = l.cell
