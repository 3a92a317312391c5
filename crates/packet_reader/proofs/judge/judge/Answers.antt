-- `packet_reader::judge::judge` meets its contract: the number that the rejection has.
-- Assumes nothing.
use Rattle.std.proofs.Common.{ap, ◌∙◌}
use Rattle.packet.specs.Header.{Judged}
use Rattle.packet_reader.proofs.Refusals.{judged-number, refusal_told_by}
use Rattle.packet_reader.proofs.judge.judge.Goals as goal

pub returns-in_err-judged : goal.returns-in_err-judged
returns-in_err-judged c = refusal_told_by _ _ _ (c.in_err-judged.ensures {u = tt}) c.from_residual.ensures.1

pub returns : goal.returns
returns c = ap (λ (x : Judged). x.test) (c.in_ok-judged.ensures {u = tt}) ∙ judged-number _
