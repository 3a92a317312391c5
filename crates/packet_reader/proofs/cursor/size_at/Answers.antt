-- `packet_reader::cursor::size_at` meets its contract: none left, a cursor past the packet, or the walk's own step.
-- Assumes nothing.
use Rattle.std.proofs.Common.{refl, ap, ◌∙◌}
use Rattle.packet.specs.Walk.{some_size}
use Rattle.packet_reader.proofs.Frames.{size_is, size_none, size_past}
use Rattle.packet_reader.proofs.cursor.size_at.Goals as goal

pub returns-then-cursor-eq0 : goal.returns-then-cursor-eq0
returns-then-cursor-eq0 c = ap some_size (size_none _ _ c.if-cursor-eq0.true)

pub returns-then-s-at : goal.returns-then-s-at
returns-then-s-at c = ap some_size (size_past _ _ c.if-cursor-eq0.false c.if-s-at.true)

pub returns : goal.returns
returns c = c.step.ensures ∙ ap some_size (size_is _ _ c.if-cursor-eq0.false refl)
