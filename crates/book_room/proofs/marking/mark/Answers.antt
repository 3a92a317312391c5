-- The first fault's number and reason stay, and each fault counts.
-- Assumes nothing.
use native.Mathlib.Omega.{arith}
use lib.ListN.{length-set}
use Rattle.book_room.proofs.Lying.{filled, long}
use Rattle.book_room.proofs.Marks.{Noted, first, later, noted_count, noted_done, noted_long}
use Rattle.book_room.proofs.marking.mark.Goals.{then-room-eq0, else-room-eq0}
use Rattle.book_room.proofs.marking.mark.Goals as goal

noted : (c : goal.After-slice_known-2-1) → Noted c.args.room.now c.args.number c.args.reason c.if-room-eq0.room
noted c = elim c.if-room-eq0.branch [ then-room-eq0 w ↦ first w.if-room-eq0.true w.room-is | else-room-eq0 w ↦ later w.if-room-eq0.false w.room-is ]

pub bounds-room-6-2 : goal.bounds-room-6-2
bounds-room-6-2 c = omega (arith, long (filled c.requires.3.lies))

pub bounds-room-6-3 : goal.bounds-room-6-3
bounds-room-6-3 c = omega (arith, noted_long c.requires.3.lies (noted c))

pub overflow_add-room : goal.overflow_add-room
overflow_add-room c =
    let counts = c.requires.3 in
    let is = noted_count counts.lies (noted c) in
    omega (arith, is, counts.counted, counts.within)

pub shape_of-room : goal.shape_of-room
shape_of-room c =
    let lies = c.requires.3.lies in
    simp length-set (omega (arith, noted_long lies (noted c), long (filled lies)))

pub returns : goal.returns
returns c next end b counts = noted_done counts.lies (noted c)

pub bounds-room-6 : goal.bounds-room-6
bounds-room-6 c = omega (arith, long (filled c.requires.3.lies))

pub bounds-room-5 : goal.bounds-room-5
bounds-room-5 c = omega (arith, long (filled c.requires.3.lies))

pub bounds-room-7 : goal.bounds-room-7
bounds-room-7 c = simp length-set (omega (arith, long (filled c.requires.3.lies)))
