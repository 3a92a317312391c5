-- Handed on, and told.
-- Assumes nothing.
use mathlib.Core.Path.{ap, ◌∙◌}
use Rattle.std.specs.Prelude.{Result}
use Rattle.refusals.specs.declared.Refusal.{Refusal}
use Rattle.session_keeping.specs.declared.passing.Passed.{Passed}
use Rattle.exports.specs.Passed.{pass_numbers}
use Rattle.single.specs.Over.{over}
use Rattle.exports.proofs.passing.jangsebit_pass.Goals as goal

pub returns : goal.returns
returns c =
    let passed = c.pass.ensures in
    record {
      told = c.tell.ensures ∙ ap (λ (p : Result Passed Refusal). over (pass_numbers p) c.args.told.now) passed.answer;
      held = passed.held;
      rule = passed.rule;
    }

pub pass-requires : goal.pass-requires
pass-requires c = c.requires
