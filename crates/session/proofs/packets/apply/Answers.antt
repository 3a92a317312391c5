-- The engine with no packet.
-- Assumes nothing.
use native.Mathlib.Omega.{arith}
use Rattle.session.proofs.Calls.{counted, no_runs, not-below, some_applied, some_rule}
use Rattle.session.proofs.packets.apply.Goals as goal

pub run-requires : goal.run-requires
run-requires c = record { ruled = c.requires; runs = no_runs }

pub overflow_sub-result : goal.overflow_sub-result
overflow_sub-result c = omega (arith, not-below c.requires _ c.args.count c.most_due-due.ensures c.run.ensures.held)

pub returns : goal.returns
returns c =
    let rule = c.requires in
    let count = c.args.count in
    let due = c.most_due-due.ensures in
    let is = c.run.ensures.held in
    record { applied = some_applied rule _ count due is; count = counted rule _ count due is; rule = some_rule rule _ count due is }
