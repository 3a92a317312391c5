-- `packet_reader::cursor::start` meets its contract: none left on a refused packet, else all its messages, from byte 12 on.
-- Assumes nothing.
use Rattle.std.proofs.Common.{sym}
use native.Mathlib.Omega.{arith}
use Rattle.packet_reader.proofs.Frames.{start_accepted, start_refused}
use Rattle.packet_reader.proofs.Refusals.{accepted}
use Rattle.packet_reader.proofs.cursor.start.Goals as goal

pub number_at-requires : goal.number_at-requires
number_at-requires c = omega (arith, (accepted _ (sym (c.in-Ok.ensures {u = tt}))).least)

pub returns-in-Err : goal.returns-in-Err
returns-in-Err c = start_refused _ _ (c.in-Err.ensures {u = tt})

pub returns-in-Ok : goal.returns-in-Ok
returns-in-Ok c = start_accepted _ (c.in-Ok.ensures {u = tt}) c.number_at.ensures
