-- `packet_reader::cursor::behind` meets its contract: where none is left the cursor stays, else it moves past the message.
-- Assumes nothing.
use native.Mathlib.Omega.{arith}
use Rattle.packet_reader.proofs.Frames.{found_some, found_within, moves_found, stays_none}
use Rattle.packet_reader.proofs.cursor.behind.Goals as goal

pub returns-in_default : goal.returns-in_default
returns-in_default c = stays_none _ _ (c.in_default.ensures {u = tt})

pub end_of-at-requires : goal.end_of-at-requires
end_of-at-requires c = omega (arith, found_within _ _ (c.in-Some.ensures {u = tt}))

pub overflow_sub-result : goal.overflow_sub-result
overflow_sub-result c = found_some _ _ (c.in-Some.ensures {u = tt})

pub returns : goal.returns
returns c = moves_found _ _ (c.in-Some.ensures {u = tt}) c.end_of-at.ensures
