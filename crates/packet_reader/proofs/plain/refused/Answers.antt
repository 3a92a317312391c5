-- What a reader that was opened says: its cursor keeps which of 1 to 7 refused the packet.
-- Assumes nothing.
use Rattle.std.proofs.Common.{ap, ◌∙◌}
use Rattle.refusals.specs.Refusals.{refusal_or_none}
use Rattle.packet_reader.specs.declared.read.Reader.{Reader}
use Rattle.packet_reader.proofs.Handing.{refusal_start}
use Rattle.packet_reader.proofs.plain.refused.Goals as goal

pub returns : goal.returns
returns c =
    ap refusal_or_none (c.refusal.ensures ∙ ap (λ (r : Reader). r.cursor.refusal) c.open.ensures)
    ∙ refusal_start c.args.packet.now
