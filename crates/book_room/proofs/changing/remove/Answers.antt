-- The key and its entry in the index leave; the last key and its entry take their place.
-- Assumes nothing.
use native.Mathlib.Omega.{arith}
use lib.ListN.{length-set}
use Rattle.book_room.proofs.Lying.{live_at, long}
use Rattle.book_room.proofs.Writes.{remove_asks, remove_done}
use Rattle.book_room.proofs.changing.remove.Goals as goal

pub bounds-room-2 : goal.bounds-room-2
bounds-room-2 c = omega (arith, long c.requires.3.filled)

pub overflow_sub-last : goal.overflow_sub-last
overflow_sub-last c = let h = c.requires.3 in omega (arith, live_at h.filled, h.within)

pub bounds-room-place : goal.bounds-room-place
bounds-room-place c = let h = c.requires.3 in omega (arith, long h.filled, h.within, h.filled.live)

pub overflow_add-moved : goal.overflow_add-moved
overflow_add-moved c = let h = c.requires.3 in omega (arith, live_at h.filled, h.filled.live)

pub offset_bounds-room-last : goal.offset_bounds-room-last
offset_bounds-room-last c = let h = c.requires.3 in omega (arith, live_at h.filled, h.filled.live)

pub bounds-room-last : goal.bounds-room-last
bounds-room-last c = let h = c.requires.3 in omega (arith, long h.filled, live_at h.filled, h.filled.live)

pub bounds-room-place-2 : goal.bounds-room-place-2
bounds-room-place-2 c = let h = c.requires.3 in omega (arith, long h.filled, h.within, h.filled.live)

pub overflow_add-room-2 : goal.overflow_add-room-2
overflow_add-room-2 c = let h = c.requires.3 in omega (arith, live_at h.filled, h.filled.live)

pub offset_bounds-room-last-2 : goal.offset_bounds-room-last-2
offset_bounds-room-last-2 c = let h = c.requires.3 in omega (arith, live_at h.filled, h.filled.live)

pub bounds-room-last-2 : goal.bounds-room-last-2
bounds-room-last-2 c =
    let h = c.requires.3 in
    simp length-set (omega (arith, long h.filled, live_at h.filled, h.filled.live))

pub bounds-room-2-2 : goal.bounds-room-2-2
bounds-room-2-2 c = simp length-set (omega (arith, long c.requires.3.filled))

pub slice_bounds-remove-end : goal.slice_bounds-remove-end
slice_bounds-remove-end c = simp length-set (omega (arith, long c.requires.3.filled))

pub remove-requires : goal.remove-requires
remove-requires c = let h = c.requires.3 in remove_asks h.filled h.within

pub returns : goal.returns
returns c next end b h = remove_done h.filled h.within c.remove.ensures
