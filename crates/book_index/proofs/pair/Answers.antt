-- Each turn of the walk stands at a cell of the first number's chain, with the two numbers at no place from it on.
-- Assumes nothing.
use native.Mathlib.Omega.{arith}
use Rattle.book_index.proofs.Laws.{size_of}
use Rattle.book_index.proofs.Walks.{seek_head, seek_none, seek_falls, seek_live, seek_found, seek_on}
use Rattle.book_index.proofs.Pairs.{both_here, both_are, seek_pair, pair_none, pair_some}
use Rattle.book_index.proofs.pair.Goals as goal
use Rattle.book_index.proofs.pair.Goals.{else-fronts-place-via-then-fronts-place+else-backs-place, else-fronts-place-via-else-fronts-place}

pub loop-place-init : goal.loop-place-init
loop-place-init c = seek_head (seek_pair _ _ _ _ c.requires _ _) _ c.head-cell.ensures.0

pub next-requires : goal.next-requires
next-requires c =
    let size = size_of _ c.requires.is in
    let within = c.loop-place.invariant.within in
    omega arith

pub offset_bounds-fronts-place : goal.offset_bounds-fronts-place
offset_bounds-fronts-place c =
    let l = seek_live (seek_pair _ _ _ _ c.requires _ _) c.loop-place.invariant c.in-Some.ensures in
    omega arith

pub bounds-fronts-place : goal.bounds-fronts-place
bounds-fronts-place c =
    let x = c.requires in
    let l = seek_live (seek_pair _ _ _ _ x _ _) c.loop-place.invariant c.in-Some.ensures in
    omega (arith, x.fronts, x.few)

pub offset_bounds-backs-place : goal.offset_bounds-backs-place
offset_bounds-backs-place c =
    let l = seek_live (seek_pair _ _ _ _ c.requires _ _) c.loop-place.invariant c.in-Some.ensures in
    omega arith

pub bounds-backs-place : goal.bounds-backs-place
bounds-backs-place c =
    let x = c.requires in
    let l = seek_live (seek_pair _ _ _ _ x _ _) c.loop-place.invariant c.in-Some.ensures in
    omega (arith, x.backs, x.few)

pub returns-then-backs-place : goal.returns-then-backs-place
returns-then-backs-place c =
    let x = c.requires in
    pair_some _ _ _ _ x _ _ (seek_live (seek_pair _ _ _ _ x _ _) c.loop-place.invariant c.in-Some.ensures)
    (seek_found (seek_pair _ _ _ _ x _ _) c.loop-place.invariant c.in-Some.ensures
    (both_here _ _ _ _ _ c.if-fronts-place.true c.if-backs-place.true))

pub loop-place-smaller : goal.loop-place-smaller
loop-place-smaller c = seek_falls (seek_pair _ _ _ _ c.requires _ _) c.loop-place.invariant c.in-Some.ensures

pub loop-place-preserved : goal.loop-place-preserved
loop-place-preserved c =
    seek_on (seek_pair _ _ _ _ c.requires _ _) c.loop-place.invariant c.in-Some.ensures
    (λ e. elim c.else-fronts-place.branch [
      | else-fronts-place-via-then-fronts-place+else-backs-place w ↦ w.if-backs-place.false (both_are _ _ _ _ _ e).1
      | else-fronts-place-via-else-fronts-place w ↦ w.if-fronts-place.false (both_are _ _ _ _ _ e).0
    ])

pub returns : goal.returns
returns c =
    let x = c.requires in
    pair_none _ _ _ _ x _ _ (seek_none (seek_pair _ _ _ _ x _ _) c.loop-place.invariant c.in_default.ensures)
