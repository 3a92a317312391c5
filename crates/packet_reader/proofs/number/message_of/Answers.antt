-- `packet_reader::number::message_of` meets its contract: the part at the cursor that has i messages before it.
-- Assumes nothing.
use mathlib.Core.Path.{ap, ◌∙◌}
use Rattle.packet_reader.specs.Cursors.{part_if}
use Rattle.packet_reader.proofs.Handing.{listed_at}
use Rattle.packet_reader.proofs.number.message_of.Goals as goal

pub returns : goal.returns
returns c = c.part.ensures ∙ ap (part_if c.args.s) (listed_at _ _ c.cursor_of-at.ensures)
