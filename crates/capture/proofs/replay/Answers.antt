-- `capture::replay` keeps the session's rule and the strict one of its opening.
-- Assumes nothing.
use Rattle.capture.proofs.Strict.{taken_strictly}
use borrow.Author.Rules.{rules}
use Rattle.capture.proofs.replay.Goals as goal

pub loop-size-preserved : goal.loop-size-preserved
loop-size-preserved g c =
    let call = c.take-answer.ensures in
    let before = c.loop-size.invariant in
    (taken_strictly _ before.0 call.taken call.rule, search rules)

pub returns-in_err-make_room-clause-strict : goal.returns-in_err-make_room-clause-strict
returns-in_err-make_room-clause-strict g c =
    let call = c.take-answer.ensures in
    taken_strictly _ c.loop-size.invariant.0 call.taken call.rule
