-- What waits is applied with no packet; next says how many.
-- Assumes nothing.
use native.Mathlib.Omega.{arith}
use Rattle.session.proofs.Calls.{counted, not-below, some_applied, some_rule}
use Rattle.exports.proofs.jangsebit_apply.Goals as goal

pub overflow_sub-result : goal.overflow_sub-result
overflow_sub-result c = omega (arith, not-below c.requires _ c.args.count c.most_due-due.ensures c.run.ensures.held)

pub returns : goal.returns
returns c =
    let rule = c.requires in
    let count = c.args.count in
    let due = c.most_due-due.ensures in
    let is = c.run.ensures.held in
    record { applied = some_applied rule _ count due is; count = counted rule _ count due is; rule = some_rule rule _ count due is }
