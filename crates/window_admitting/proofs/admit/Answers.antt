-- One packet, by the test that decides.
-- Assumes nothing.
use native.Mathlib.Omega.{arith}
use Rattle.std.proofs.lemmas.Result.{err_from_is_err_and}
use Rattle.window_taking.specs.Keeping.{at_once}
use Rattle.window_taking.proofs.Admits.{by_packet, long, beats, by_nine, old_on, passes_on, straight_on, by_ten, keeps}
use Rattle.window_admitting.proofs.admit.Goals as goal

pub returns-in_err-judge : goal.returns-in_err-judge
returns-in_err-judge c =
    let p = err_from_is_err_and c.from_residual.result c.from_residual.ensures.1 in
    let a = by_packet (at_once c.args.apply) c.args.s.now c.args.end c.requires.neat {rejection = c.in_err-judge.field-0.0} c.in_err-judge.ensures in
    rw (p.1, p.2) (record { answer = a.answer; kept = a.kept })

pub fields-head-requires : goal.fields-head-requires
fields-head-requires c = long (at_once c.args.apply) c.args.s.now c.args.end c.requires.neat c.in_ok-judge.ensures

pub returns-then-head-eq1 : goal.returns-then-head-eq1
returns-then-head-eq1 c =
    let a = beats (at_once c.args.apply) c.args.s.now c.args.end c.requires.neat c.in_ok-judge.ensures c.fields-head.ensures c.if-head-eq1.true c.max.ensures in
    rw c.taken.ensures (record { answer = a.answer; kept = a.kept })

pub returns-then-next-stop : goal.returns-then-next-stop
returns-then-next-stop c =
    let a = by_nine (at_once c.args.apply) c.args.s.now c.args.end c.requires.neat c.in_ok-judge.ensures c.fields-head.ensures c.if-head-eq1.false c.if-next-stop.true in
    record { answer = a.answer; kept = a.kept }

pub returns-then-stop-next : goal.returns-then-stop-next
returns-then-stop-next c =
    let a = old_on (at_once c.args.apply) c.args.s.now c.args.end c.requires.neat c.in_ok-judge.ensures c.fields-head.ensures c.if-head-eq1.false c.if-next-stop.false c.if-stop-next.true c.max-2.ensures in
    rw c.taken-behind.ensures (record { answer = a.answer; kept = a.kept })

pub returns-then-straight : goal.returns-then-straight
returns-then-straight c =
    let a = straight_on (at_once c.args.apply) c.args.s.now c.args.end c.requires.neat c.in_ok-judge.ensures c.fields-head.ensures c.if-head-eq1.false c.if-next-stop.false c.requires.known c.max-2.ensures c.straight.ensures c.if-straight.true in
    rw c.taken-behind.ensures (record { answer = a.answer; kept = a.kept })

pub clashes-requires : goal.clashes-requires
clashes-requires c = record { neat = c.requires.neat; known = c.requires.known; passed = passes_on (at_once c.args.apply) c.args.s.now c.args.end c.requires.neat c.in_ok-judge.ensures c.fields-head.ensures c.if-head-eq1.false c.if-next-stop.false }

pub returns-then-clashes : goal.returns-then-clashes
returns-then-clashes c =
    let a = by_ten (at_once c.args.apply) c.args.s.now c.args.end c.requires.neat c.in_ok-judge.ensures c.fields-head.ensures c.if-head-eq1.false c.if-next-stop.false c.clashes.ensures c.if-clashes.true in
    record { answer = a.answer; kept = a.kept }

pub keep_all-fresh-requires : goal.keep_all-fresh-requires
keep_all-fresh-requires c = record { neat = c.requires.neat; passed = passes_on (at_once c.args.apply) c.args.s.now c.args.end c.requires.neat c.in_ok-judge.ensures c.fields-head.ensures c.if-head-eq1.false c.if-next-stop.false }

pub returns : goal.returns
returns c =
    let a = keeps (at_once c.args.apply) c.args.s.now c.args.end c.requires.neat c.in_ok-judge.ensures c.fields-head.ensures c.if-head-eq1.false c.if-next-stop.false c.clashes.ensures c.if-clashes.false c.max-2.ensures c.straight.ensures c.if-straight.false c.keep_all-fresh.ensures.fresh c.keep_all-fresh.ensures.kept in
    rw c.taken-behind.ensures (record { answer = a.answer; kept = a.kept })

pub overflow_add-next : goal.overflow_add-next
overflow_add-next c = omega (arith, c.requires.neat.top)
