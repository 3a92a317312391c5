-- `packet_reader::number::frame_of` meets its contract: the message at the cursor that has i messages before it.
-- Assumes nothing.
use mathlib.Core.Path.{ap, ◌∙◌}
use Rattle.packet_reader.specs.Cursors.{framed}
use Rattle.packet_reader.proofs.Handing.{listed_at}
use Rattle.packet_reader.proofs.number.frame_of.Goals as goal

pub returns : goal.returns
returns c = c.frame_at.ensures ∙ ap framed (listed_at _ _ c.cursor_of-at.ensures)
