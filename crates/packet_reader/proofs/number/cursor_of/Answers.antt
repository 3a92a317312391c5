-- `packet_reader::number::cursor_of` meets its contract: the messages still to be passed, from where the cursor is, lead to the same cursor.
-- Assumes nothing.
use Rattle.std.proofs.Common.{◌∙◌, sym}
use native.Mathlib.Omega.{arith}
use Rattle.packet_reader.proofs.Handing.{after-all, after_one}
use Rattle.packet_reader.proofs.number.cursor_of.Goals as goal

pub loop-preserved : goal.loop-preserved
loop-preserved c = c.loop.invariant ∙ after_one _ _ _ _ (omega (arith, c.loop-test.true)) c.behind-at.ensures

pub returns : goal.returns
returns c = sym (c.loop.invariant ∙ after-all _ _ _ (omega (arith, c.loop-test.false)))
