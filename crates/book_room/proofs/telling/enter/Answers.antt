-- The symbol's two numbers and its entry in the index come behind the last.
-- Assumes nothing.
use mathlib.Core.Path.{ap₂, ◌∙◌}
use Prim.Native.Nat.{ℕ, ◌+◌}
use native.Mathlib.Omega.{arith}
use lib.ListN.{length-set, set}
use Rattle.book.specs.Tables.{holding_insides}
use Rattle.book_room.specs.Room.{room_of}
use Rattle.book_room.proofs.Lying.{long}
use Rattle.book_room.proofs.Writes.{enter_asks, enter_done}
use Rattle.book_room.proofs.telling.enter.Goals as goal

pub bounds-room-held : goal.bounds-room-held
bounds-room-held c = let h = c.requires.3 in omega (arith, long h.filled, h.few)

pub bounds-room-held-2 : goal.bounds-room-held-2
bounds-room-held-2 c = let h = c.requires.3 in simp length-set (omega (arith, long h.filled, h.few))

pub bounds-room-3 : goal.bounds-room-3
bounds-room-3 c = simp length-set (omega (arith, long c.requires.3.filled))

pub slice_bounds-put-end : goal.slice_bounds-put-end
slice_bounds-put-end c = simp length-set (omega (arith, long c.requires.3.filled))

pub put-requires : goal.put-requires
put-requires c =
    let h = c.requires.3 in
    enter_asks h.filled h.at h.few c.front-first.result c.back.result

pub returns : goal.returns
returns c next end b h =
    let held = c.args.held in
    enter_done h.filled h.at h.few c.front-first.result c.back.result c.put.ensures
    ∙ ap₂ (λ (first last : ℕ). room_of next end (holding_insides b b.insides (set b.fronts held first) (set b.backs held last) (held + 1)))
    c.front-first.ensures c.back.ensures
