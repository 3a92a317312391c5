-- The key and its entry in the index come behind the last.
-- Assumes nothing.
use native.Mathlib.Omega.{arith}
use lib.ListN.{length-set}
use Rattle.book_room.proofs.Lying.{long}
use Rattle.book_room.proofs.Writes.{put_asks, put_done}
use Rattle.book_room.proofs.adding.enter.Goals as goal

pub bounds-room-live : goal.bounds-room-live
bounds-room-live c = let h = c.requires.3 in omega (arith, long h.filled, h.few)

pub bounds-room-2 : goal.bounds-room-2
bounds-room-2 c = simp length-set (omega (arith, long c.requires.3.filled))

pub slice_bounds-put-end : goal.slice_bounds-put-end
slice_bounds-put-end c = simp length-set (omega (arith, long c.requires.3.filled))

pub put-requires : goal.put-requires
put-requires c =
    let h = c.requires.3 in
    put_asks h.filled h.at h.few c.args.key

pub returns : goal.returns
returns c next end b h = put_done h.filled h.at h.few c.args.key c.put.ensures
