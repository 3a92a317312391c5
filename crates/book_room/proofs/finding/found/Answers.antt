-- The place that the index tells.
-- Assumes nothing.
use native.Mathlib.Omega.{arith}
use Rattle.book_room.proofs.Finds.{is_place, last_in, unnamed}
use Rattle.book_room.proofs.Lying.{filled, ids_apart, indexed, long}
use Rattle.book_room.proofs.finding.found.Goals as goal

pub returns-then-key-eq-NONE : goal.returns-then-key-eq-NONE
returns-then-key-eq-NONE c next end b lies = unnamed b.keys b.live c.if-key-eq-NONE.true

pub returns : goal.returns
returns c next end b lies = is_place (ids_apart lies.kept) c.if-key-eq-NONE.false (last_in lies c.find.ensures)

pub bounds-room-2 : goal.bounds-room-2
bounds-room-2 c = omega (arith, long (filled c.requires.3))

pub slice_bounds-find-end : goal.slice_bounds-find-end
slice_bounds-find-end c = omega (arith, long (filled c.requires.3))

pub slice_bounds-find-end-2 : goal.slice_bounds-find-end-2
slice_bounds-find-end-2 c = omega (arith, long (filled c.requires.3))

pub find-requires : goal.find-requires
find-requires c = indexed (filled c.requires.3)
