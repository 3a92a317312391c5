-- Each turn of the walk stands at a cell of the first number's chain, with the two numbers at no place from it on.
-- Assumes nothing.
use lib.ListN.{take}
use Rattle.book_index.specs.Pairs.{both_at}
use Rattle.book_index.proofs.Walks.{Seeking}
use Rattle.book_index.proofs.pair.Given as goal

abbrev pub invariant-loop-place : goal.invariant-loop-place
invariant-loop-place l = Seeking (take l.held l.fronts) l.held l.first (both_at l.first l.last l.fronts l.backs) 1 l.cell

abbrev pub decreases-loop-place : goal.decreases-loop-place
decreases-loop-place l = l.cell
