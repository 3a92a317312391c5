-- `packet_reader::cursor::part` meets its contract: the bytes of the message at the cursor, where they lie in the packet.
-- Assumes nothing.
use native.Mathlib.Omega.{arith}
use Rattle.packet_reader.proofs.Frames.{found_within}
use Rattle.packet_reader.proofs.cursor.part.Goals as goal

pub end_of-end-requires : goal.end_of-end-requires
end_of-end-requires c = omega (arith, found_within _ _ (c.in_ok-found.ensures {u = tt}))

pub slice_bounds-result-end : goal.slice_bounds-result-end
slice_bounds-result-end c = omega (arith, found_within _ _ (c.in_ok-found.ensures {u = tt}), c.end_of-end.ensures)
