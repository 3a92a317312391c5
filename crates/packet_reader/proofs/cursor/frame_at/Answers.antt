-- `packet_reader::cursor::frame_at` meets its contract: by whether there is a size.
-- Assumes nothing.
use Rattle.std.proofs.Common.{◌∙◌}
use Rattle.packet_reader.proofs.Frames.{none-framed, some_framed}
use Rattle.packet_reader.proofs.cursor.frame_at.Goals as goal

pub returns-in_err-size : goal.returns-in_err-size
returns-in_err-size c = c.from_residual.ensures ∙ none-framed _ _ (c.in_err-size.ensures {u = tt})

pub returns : goal.returns
returns c = some_framed _ _ _ (c.in_ok-size.ensures {u = tt})
