-- One more is counted apart, and no other number is written.
-- Assumes nothing.
use native.Mathlib.Omega.{arith}
use Rattle.book_room.proofs.Lying.{filled, long}
use Rattle.book_room.proofs.Writes.{apart_at, apart_done}
use Rattle.book_room.proofs.unlisted.count_apart.Goals as goal

pub bounds-room-9 : goal.bounds-room-9
bounds-room-9 c = omega (arith, long (filled c.requires.3.lies))

pub bounds-room-9-2 : goal.bounds-room-9-2
bounds-room-9-2 c = omega (arith, long (filled c.requires.3.lies))

pub overflow_add-room : goal.overflow_add-room
overflow_add-room c = let counts = c.requires.3 in omega (arith, apart_at (filled counts.lies), counts.apart, counts.within)

pub returns : goal.returns
returns c next end b counts = apart_done (filled counts.lies)
