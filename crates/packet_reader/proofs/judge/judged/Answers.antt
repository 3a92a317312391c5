-- `packet_reader::judge::judged` meets its contract: 1 to 8, with 8 left out.
-- Assumes nothing.
use Rattle.std.proofs.Common.{ap, ◌∙◌, sym}
use native.Mathlib.Omega.{arith}
use Rattle.refusals.specs.Refusals.{number_of, refusal_by}
use Rattle.refusals.proofs.Numbers.{by_number}
use Rattle.packet_reader.proofs.Refusals.{eight, others}
use Rattle.packet_reader.proofs.judge.judged.Goals as goal

pub returns-in-Ok : goal.returns-in-Ok
returns-in-Ok c = others _ _ (c.in-Ok.ensures {u = tt}) (λ e. absurd (omega arith))

pub returns-in-PastLastNumber : goal.returns-in-PastLastNumber
returns-in-PastLastNumber c = eight _ _ (c.in-Err.ensures {u = tt}) (ap number_of c.in-PastLastNumber.is)

pub returns-in_default : goal.returns-in_default
unfolding refusal_by
returns-in_default c = others _ _ (c.in-Err.ensures {u = tt}) (λ e. c.in_default.not-PastLastNumber (sym (by_number _) ∙ ap refusal_by e))
