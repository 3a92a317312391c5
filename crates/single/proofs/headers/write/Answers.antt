-- A header is written as the fields packed.
-- Assumes nothing.
use Rattle.std.proofs.Common.{ℕ, ap, ◌∙◌, Result}
use Rattle.refusals.specs.Refusals.{refusal_in}
use Rattle.refusals.specs.declared.Refusal.{Refusal}
use Rattle.single.proofs.headers.write.Goals as goal

pub returns : goal.returns
returns c = record {
  refusal = c.number_in.ensures ∙ ap (λ (r : Result ℕ Refusal). refusal_in r) c.write_header-written.ensures.answer;
  buffer = c.write_header-written.ensures.buffer;
}
