-- The two stores put the place before the chain's first.
-- Assumes nothing.
use mathlib.Core.Path.{◌≡◌}
use lib.ListN.{length}
use Rattle.book_index.proofs.Laws.{size_of}
use Rattle.book_index.proofs.Moves.{put_is}
use borrow.Author.Rules.{rules}
use Rattle.book_index.proofs.put.Goals as goal

size : (c : goal.After-slice_known-2-1) → length c.args.index.now ≡ 765
size c = size_of _ c.requires.1.is

pub bounds-index-cell : goal.bounds-index-cell
bounds-index-cell c = let s = size c in search rules

pub bounds-index-live : goal.bounds-index-live
bounds-index-live c = let s = size c in search rules

pub bounds-index-cell-2 : goal.bounds-index-cell-2
bounds-index-cell-2 c = let s = size c in search rules

pub returns : goal.returns
returns = (λ c ids o. put_is _ ids _ _ _ o c.head-cell.ensures.0)
