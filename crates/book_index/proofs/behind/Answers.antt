-- Each turn of the walk stands at a cell of the chain behind the place, and the cells fall.
-- Assumes nothing.
use native.Mathlib.Omega.{arith}
use Rattle.book_index.proofs.Chained.{size_by}
use Rattle.book_index.proofs.Walks.{near_head, near_falls, near_last, near_end, near_on}
use Rattle.book_index.proofs.behind.Goals as goal

pub loop-after-init : goal.loop-after-init
loop-after-init c = (c.head-cell.ensures.1, λ chains is. near_head _ chains _ _ _ is c.requires.place_bound c.head-cell.ensures.0)

pub next-requires : goal.next-requires
next-requires c = let size = size_by _ c.requires.by_index.1 in omega arith

pub returns-then-after-place : goal.returns-then-after-place
returns-then-after-place c =
    let inv = c.loop-after.invariant in
    (inv.0, λ chains is. near_end _ chains _ _ _ is (inv.1 chains is) c.in-Some.ensures c.if-after-place.true)

pub loop-after-smaller : goal.loop-after-smaller
loop-after-smaller c =
    let pre = c.requires.by_index in
    near_falls _ pre.0 _ _ _ pre.1 (c.loop-after.invariant.1 pre.0 pre.1) c.in-Some.ensures

pub loop-after-preserved : goal.loop-after-preserved
loop-after-preserved c =
    let pre = c.requires.by_index in
    let inv = c.loop-after.invariant in
    let fall = near_falls _ pre.0 _ _ _ pre.1 (inv.1 pre.0 pre.1) c.in-Some.ensures in
    (omega arith, λ chains is. near_on _ chains _ _ _ is (inv.1 chains is) c.in-Some.ensures c.if-after-place.false)

pub returns : goal.returns
returns c =
    let inv = c.loop-after.invariant in
    (inv.0, λ chains is. near_last _ chains _ _ _ is (inv.1 chains is) c.in_default.ensures)
