-- The nearest cell behind the place points at it, and the place where that cell did.
-- Assumes nothing.
use mathlib.Core.Path.{◌≡◌}
use lib.ListN.{length}
use Rattle.book_index.proofs.Chained.{size_by}
use Rattle.book_index.proofs.Moves.{link_is}
use borrow.Author.Rules.{rules}
use Rattle.book_index.proofs.link.Goals as goal

size : (c : goal.After-slice_known-2-1) → length c.args.index.now ≡ 765
size c = size_by _ c.requires.1.is

pub bounds-index-cell : goal.bounds-index-cell
bounds-index-cell c = let s = size c in search rules

pub bounds-index-place : goal.bounds-index-place
bounds-index-place c = let s = size c in search rules

pub bounds-index-cell-2 : goal.bounds-index-cell-2
bounds-index-cell-2 c = let s = size c in search rules

pub returns : goal.returns
returns = (λ c chains o. link_is _ chains _ _ _ o c.behind-cell.ensures.0 (c.behind-cell.ensures.1 chains o.is))
