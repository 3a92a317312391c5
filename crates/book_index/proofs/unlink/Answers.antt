-- The cell that points at the place passes it over.
-- Assumes nothing.
use mathlib.Core.Path.{◌≡◌}
use Prim.Native.Nat.{◌<◌}
use native.Mathlib.Omega.{arith}
use lib.ListN.{length}
use Rattle.book_index.proofs.Chained.{size_by}
use Rattle.book_index.proofs.Moves.{unlink_is}
use borrow.Author.Rules.{rules}
use Rattle.book_index.proofs.unlink.Goals as goal

size : (c : goal.After-slice_known-2-1) → length c.args.index.now ≡ 765
size c = size_by _ c.requires.1.is

room : (c : goal.After-slice_known-2-1) → c.args.place < length c.args.index.now
room c = let s = size c in omega arith

pub returns : goal.returns
returns c = λ chains o. unlink_is _ chains _ _ _ o c.behind-cell.ensures.0 (c.behind-cell.ensures.1 chains o.is)

pub bounds-index-place : goal.bounds-index-place
bounds-index-place c = let s = size c in search rules

pub bounds-index-cell : goal.bounds-index-cell
bounds-index-cell c = let s = size c in search rules

pub bounds-index-place-2 : goal.bounds-index-place-2
bounds-index-place-2 c = let r = room c in search rules
