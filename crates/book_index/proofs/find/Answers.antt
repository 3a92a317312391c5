-- Each turn of the walk stands at a cell of the key's chain, with the key at no place from it on.
-- Assumes nothing.
use native.Mathlib.Omega.{arith}
use Rattle.book_index.proofs.Laws.{size_of}
use Rattle.book_index.proofs.Walks.{seek_key, last_none, last_some, seek_head, seek_none, seek_falls, seek_live, seek_found, seek_on}
use Rattle.book_index.proofs.find.Goals as goal

pub loop-place-init : goal.loop-place-init
loop-place-init c = seek_head (seek_key _ _ _ _ c.requires) _ c.head-cell.ensures.0

pub next-requires : goal.next-requires
next-requires c =
    let size = size_of _ c.requires.is in
    let within = c.loop-place.invariant.within in
    omega arith

pub offset_bounds-keys-place : goal.offset_bounds-keys-place
offset_bounds-keys-place c =
    let l = seek_live (seek_key _ _ _ _ c.requires) c.loop-place.invariant c.in-Some.ensures in
    omega arith

pub bounds-keys-place : goal.bounds-keys-place
bounds-keys-place c =
    let x = c.requires in
    let l = seek_live (seek_key _ _ _ _ x) c.loop-place.invariant c.in-Some.ensures in
    omega (arith, x.size, x.few)

pub returns-then-keys-place : goal.returns-then-keys-place
returns-then-keys-place c =
    let x = c.requires in
    last_some _ _ _ _ x (seek_live (seek_key _ _ _ _ x) c.loop-place.invariant c.in-Some.ensures)
    (seek_found (seek_key _ _ _ _ x) c.loop-place.invariant c.in-Some.ensures c.if-keys-place.true)

pub loop-place-smaller : goal.loop-place-smaller
loop-place-smaller c = seek_falls (seek_key _ _ _ _ c.requires) c.loop-place.invariant c.in-Some.ensures

pub loop-place-preserved : goal.loop-place-preserved
loop-place-preserved c =
    seek_on (seek_key _ _ _ _ c.requires) c.loop-place.invariant
    c.in-Some.ensures c.if-keys-place.false

pub returns : goal.returns
returns c =
    let x = c.requires in
    last_none _ _ _ _ x (seek_none (seek_key _ _ _ _ x) c.loop-place.invariant c.in_default.ensures)
