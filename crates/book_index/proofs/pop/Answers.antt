-- The last place is the first of its chain: the head passes it over.
-- Assumes nothing.
use mathlib.Core.Path.{◌≡◌}
use Prim.Native.Nat.{◌<◌}
use native.Mathlib.Omega.{arith}
use lib.ListN.{length}
use Rattle.book_index.proofs.Chained.{size_by}
use Rattle.book_index.proofs.Moves.{pop_is}
use borrow.Author.Rules.{rules}
use Rattle.book_index.proofs.pop.Goals as goal

size : (c : goal.After-slice_known-2-1) → length c.args.index.now ≡ 765
size c = size_by _ c.requires.1.on.is

room : (c : goal.After-slice_known-2-1) → c.args.last < length c.args.index.now
room c = let s = size c in omega arith

pub returns : goal.returns
returns c = λ chains o. pop_is _ chains _ _ _ o c.head-cell.ensures.0

pub bounds-index-last : goal.bounds-index-last
bounds-index-last c = let s = size c in search rules

pub bounds-index-cell : goal.bounds-index-cell
bounds-index-cell c = let s = size c in search rules

pub bounds-index-last-2 : goal.bounds-index-last-2
bounds-index-last-2 c = let r = room c in search rules
