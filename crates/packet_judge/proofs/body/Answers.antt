-- `packet::body` meets its contract: by how the walk ended, then by the last number.
-- Assumes nothing.
use Rattle.std.proofs.Common.{ap, ◌∙◌}
use Rattle.packet.specs.Header.{told}
use Rattle.packet.proofs.Judgements.{body_broken, body_past, body_good}
use Rattle.packet_judge.proofs.body.Goals as goal

pub returns-then-seq-messages-gt4294967296 : goal.returns-then-seq-messages-gt4294967296
returns-then-seq-messages-gt4294967296 c = ap told c.rejected-then-seq-messages-gt4294967296.ensures ∙ body_past _ _ c.in-None.is c.if-seq-messages-gt4294967296.true

pub returns-in-Some : goal.returns-in-Some
returns-in-Some c = ap told c.rejected.ensures ∙ body_broken _ _ c.in-Some.is

pub returns-else-seq-messages-gt4294967296 : goal.returns-else-seq-messages-gt4294967296
returns-else-seq-messages-gt4294967296 c = body_good _ _ c.in-None.is c.if-seq-messages-gt4294967296.false
