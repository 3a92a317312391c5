-- One packet is a burst of one.
-- Assumes nothing.
use mathlib.Core.Bool.{true}
use native.Mathlib.Omega.{arith}
use Rattle.session.specs.Meaning.{held, view}
use Rattle.session.proofs.Calls.{answer_is, one_runs, rule_packets, taken_is, told_refusal}
use Rattle.window_taking.proofs.Passing.{bytes_of}
use Rattle.session.proofs.packets.take.Goals as goal

pub run-requires : goal.run-requires
run-requires c = record { ruled = c.requires; runs = one_runs }

pub answer_by-answer-requires : goal.answer_by-answer-requires
answer_by-answer-requires c = told_refusal (view (held c.args.session c.args.room.now c.args.window.now)) c.args.packet.now c.run.ensures.answers

pub returns : goal.returns
returns c =
    let rows = c.run.ensures.answers in
    let x = view (held c.args.session c.args.room.now c.args.window.now) in
    let packet = c.args.packet.now in
    record {
      taken = taken_is x packet rows c.run.ensures.held;
      answer = answer_is x packet rows c.answer_by-answer.ensures;
      rule = rule_packets c.requires true packet 1 (bytes_of packet (λ i. omega (arith, c.type_inv.packet i))) c.run.ensures.held;
    }
