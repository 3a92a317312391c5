-- A burst by its count of packets.
-- Assumes nothing.
use mathlib.Core.Path.{refl}
use mathlib.Core.Bool.{false}
use native.Mathlib.Omega.{arith}
use Rattle.session.proofs.Calls.{burst_is, burst_runs, bytes_are, count-is, rows_are, rule_packets}
use Rattle.session.specs.Meaning.{held, view}
use Rattle.window_taking.proofs.Passing.{bytes_of}
use Rattle.session.proofs.packets.burst.Goals as goal

pub run-ended-requires : goal.run-ended-requires
run-ended-requires c =
    record {
      ruled = c.requires;
      runs = burst_runs (view (held c.args.session c.args.room.now c.args.window.now)) c.args.packets.now c.args.answers.now c.args.count refl c.due_of-due.ensures (omega arith);
    }

pub returns : goal.returns
returns c =
    let x = view (held c.args.session c.args.room.now c.args.window.now) in
    let packets = c.args.packets.now in
    let answers = c.args.answers.now in
    let most = c.args.count in
    let due = c.due_of-due.ensures in
    let ran = c.run-ended.ensures in
    let rule = rule_packets c.requires false packets c.due_of-due.result (bytes_of packets (λ i. omega (arith, c.type_inv.packets i))) ran.held in
    record {
      taken = burst_is x packets answers most refl due ran.held;
      count = count-is x packets answers most refl due ran.taken c.count_of.ensures;
      bytes = bytes_are x packets answers most refl due ran.at;
      answers = rows_are x packets answers most refl due ran.answers;
      rule = rule;
    }
