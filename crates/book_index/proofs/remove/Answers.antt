-- The last place leaves its chain, the place leaves that of the key that goes, and comes to that of the key that moves.
-- Assumes nothing.
use mathlib.Core.Path.{sym, ◌∙◌}
use Rattle.book_index.proofs.Laws.{size_of}
use Rattle.book_index.proofs.Moves.{asks_pop, asks_unlink, asks_link, last_is, removed_is}
use Rattle.book_index.proofs.remove.Goals as goal

pub pop-requires : goal.pop-requires
pop-requires c = (_, asks_pop _ _ _ _ _ _ c.requires.1)

pub returns-then-place-last : goal.returns-then-place-last
returns-then-place-last c = λ ids l.
    last_is _ ids _ _ _ _ l c.if-place-last.true (c.pop.ensures _ (asks_pop _ ids _ _ _ _ l))

pub shape_of-index-then-place-last : goal.shape_of-index-then-place-last
shape_of-index-then-place-last c = let l = c.requires.1 in size_of _ (returns-then-place-last c _ l) ∙ sym (size_of _ l.is)

pub unlink-requires : goal.unlink-requires
unlink-requires c =
    let l = c.requires.1 in
    let one = c.pop.ensures _ (asks_pop _ _ _ _ _ _ l) in
    (_, asks_unlink _ _ _ _ _ _ l c.if-place-last.false one)

pub link-requires : goal.link-requires
link-requires c =
    let l = c.requires.1 in
    let one = c.pop.ensures _ (asks_pop _ _ _ _ _ _ l) in
    let two = c.unlink.ensures _ (asks_unlink _ _ _ _ _ _ l c.if-place-last.false one) in
    (_, asks_link _ _ _ _ _ _ l two)

pub returns : goal.returns
returns c = λ ids l.
    let other = c.if-place-last.false in
    let one = c.pop.ensures _ (asks_pop _ ids _ _ _ _ l) in
    let two = c.unlink.ensures _ (asks_unlink _ ids _ _ _ _ l other one) in
    removed_is _ ids _ _ _ _ l other (c.link.ensures _ (asks_link _ ids _ _ _ _ l two))

pub shape_of-index : goal.shape_of-index
shape_of-index c = let l = c.requires.1 in size_of _ (returns c _ l) ∙ sym (size_of _ l.is)
