-- Each turn of the walk stands at a cell of the key's chain, with the key at no place from it on.
-- Assumes nothing.
use lib.ListN.{get_or, take}
use Rattle.book_index.proofs.Walks.{Seeking}
use Rattle.book_index.proofs.find.Given as goal

abbrev pub invariant-loop-place : goal.invariant-loop-place
invariant-loop-place l = Seeking (take l.live l.keys) l.live l.key (λ p. get_or l.keys p 0) l.key l.cell

abbrev pub decreases-loop-place : goal.decreases-loop-place
decreases-loop-place l = l.cell
