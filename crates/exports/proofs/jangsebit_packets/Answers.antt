-- What the engine does with what is due; nothing, where the answers do not fit.
-- Assumes nothing.
use mathlib.Core.Bool.{not}
use Rattle.std.proofs.Common.{◌≡◌, true, eqb, refl, ap, ◌∙◌, sym, length, arith}
use Rattle.window_taking.proofs.Passing.{bytes_of}
use Rattle.session.specs.Meaning.{held, rep, view}
use Rattle.session.proofs.Calls.{burst_runs, rule_packets}
use Rattle.session.proofs.States.{meaning, stands}
use Rattle.exports.specs.Handed.{short_by}
use Rattle.exports.proofs.Handed.{fitting, none_due, rows_all, rows_none, some_due, taken_all, taken_none, told_all, told_none}
use Rattle.exports.proofs.jangsebit_packets.Goals as goal

pub returns-in_default : goal.returns-in_default
returns-in_default c =
    let a = c.args in
    let x = view (held a.session.now a.room.now a.window.now) in
    let none = none_due (not (eqb a.single 0)) a.count (length a.answers.now) c.due_of.ensures c.in_default.is in
    let short : short_by a.single a.count (length a.answers.now) ≡ true = fitting x a.single a.count a.packets.now a.answers.now refl refl none refl in
    let same : held a.session.now a.room.now a.window.now ≡ rep x = (stands c.requires).same ∙ ap rep (sym (meaning (stands c.requires))) in
    record {
      taken = taken_none x a.single a.count a.packets.now a.answers.now short same;
      answers = rows_none x a.single a.count a.packets.now a.answers.now short;
      told = c.tell_all.ensures ∙ told_none x a.single a.count a.packets.now a.answers.now short a.told.now;
      rule = c.requires;
    }

pub run-ended-requires : goal.run-ended-requires
run-ended-requires c =
    let a = c.args in
    let some = some_due (not (eqb a.single 0)) a.count (length a.answers.now) c.due_of.ensures c.in-Some.is in
    record { ruled = c.requires; runs = burst_runs (view (held a.session.now a.room.now a.window.now)) a.packets.now a.answers.now _ some.0 some.1 (omega arith) }

pub returns : goal.returns
returns c =
    let a = c.args in
    let x = view (held a.session.now a.room.now a.window.now) in
    let some = some_due (not (eqb a.single 0)) a.count (length a.answers.now) c.due_of.ensures c.in-Some.is in
    let run = c.run-ended.ensures in
    record {
      taken = taken_all x a.single a.count a.packets.now a.answers.now refl refl some.0 some.1 run.held;
      answers = rows_all x a.single a.count a.packets.now a.answers.now refl refl some.0 some.1 run.answers;
      told = c.tell_all-2.ensures ∙ told_all x a.single a.count a.packets.now a.answers.now refl refl some.0 some.1 a.told.now refl run.taken run.at;
      rule = rule_packets c.requires _ a.packets.now _ (bytes_of a.packets.now (λ i. omega (arith, c.type_inv.packets i))) run.held;
    }
