-- The six numbers of an inside.
-- Assumes nothing.
use native.Mathlib.Omega.{arith}
use lib.ListN.{length-set}
use Rattle.book_room.proofs.Lying.{long}
use Rattle.book_room.proofs.Writes.{write_done}
use Rattle.book_room.proofs.telling.write.Goals as goal

pub bounds-room-at : goal.bounds-room-at
bounds-room-at c = omega (arith, long c.requires.by_index.3, c.requires.place_bound)

pub bounds-room-at-2 : goal.bounds-room-at-2
bounds-room-at-2 c = simp length-set (omega (arith, long c.requires.by_index.3, c.requires.place_bound))

pub bounds-room-at-3 : goal.bounds-room-at-3
bounds-room-at-3 c = simp length-set (omega (arith, long c.requires.by_index.3, c.requires.place_bound))

pub bounds-room-at-4 : goal.bounds-room-at-4
bounds-room-at-4 c = simp length-set (omega (arith, long c.requires.by_index.3, c.requires.place_bound))

pub bounds-room-at-5 : goal.bounds-room-at-5
bounds-room-at-5 c = simp length-set (omega (arith, long c.requires.by_index.3, c.requires.place_bound))

pub bounds-room-at-6 : goal.bounds-room-at-6
bounds-room-at-6 c = simp length-set (omega (arith, long c.requires.by_index.3, c.requires.place_bound))

pub returns : goal.returns
returns = (λ c next end b fill. write_done fill _ _ c.requires.place_bound)
