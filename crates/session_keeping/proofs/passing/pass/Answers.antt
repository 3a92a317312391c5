-- One that may apply a message is left; any other is kept or refused.
-- Assumes nothing.
use mathlib.Core.Path.{◌∙◌, ap, sym}
use native.Mathlib.Omega.{arith}
use Rattle.std.specs.Prelude.{Err}
use Rattle.std.proofs.lemmas.Result.{err_from_is_err_and}
use Rattle.session.proofs.Calls.{numbered}
use Rattle.session_keeping.specs.Passing.{passed_by}
use Rattle.session_keeping.proofs.Passes.{kept_over, left_alone, told_applies, told_passed}
use Rattle.session_keeping.proofs.passing.pass.Goals as goal

pub returns-then-applies : goal.returns-then-applies
returns-then-applies c =
    let room = c.args.room.now in
    let window = c.args.window.now in
    let packet = c.args.packet.now in
    let may = sym c.applies.ensures ∙ c.if-applies.true in
    record { answer = told_applies room window packet may; held = λ s rule. left_alone rule packet may; rule = λ s rule. rule }

pub returns-in_err-keep : goal.returns-in_err-keep
returns-in_err-keep c =
    let room = c.args.room.now in
    let window = c.args.window.now in
    let packet = c.args.packet.now in
    let not_so = sym c.applies.ensures ∙ c.if-applies.false in
    let kept = c.keep.ensures in
    let p = err_from_is_err_and c.from_residual.result c.from_residual.ensures.1 in
    record {
      answer = p.1 ∙ ap passed_by (sym (c.in_err-keep.was ∙ ap Err (sym p.2))) ∙ told_passed room window packet not_so kept.answer;
      held = λ s rule. kept_over rule packet not_so (kept.held s rule);
      rule = λ s rule. kept.rule s rule;
    }

pub returns : goal.returns
returns c =
    let room = c.args.room.now in
    let window = c.args.window.now in
    let packet = c.args.packet.now in
    let not_so = sym c.applies.ensures ∙ c.if-applies.false in
    let kept = c.keep.ensures in
    record {
      answer = ap passed_by (sym c.in_ok-keep.was) ∙ told_passed room window packet not_so kept.answer;
      held = λ s rule. kept_over rule packet not_so (kept.held s rule);
      rule = λ s rule. kept.rule s rule;
    }

pub applies-requires : goal.applies-requires
applies-requires c = omega (arith, (numbered c.requires.1).order, (numbered c.requires.1).top)

pub keep-requires : goal.keep-requires
keep-requires c = c.requires
