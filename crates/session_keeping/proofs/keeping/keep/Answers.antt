-- One packet judged and kept, and end written; one that is refused leaves all as it was.
-- Assumes nothing.
use mathlib.Core.Path.{ap, sym, ◌∙◌}
use native.Mathlib.Omega.{arith}
use Rattle.std.specs.Prelude.{Err}
use Rattle.std.proofs.lemmas.Result.{err_from_is_err_and}
use Rattle.wire.specs.Number.{Bytes}
use Rattle.window_taking.proofs.Passing.{bytes_of}
use Rattle.session.specs.Asking.{line_in}
use Rattle.session_keeping.proofs.Keeps.{answer_fresh, answer_refused, known_here, neat_here, one_refused, one_ruled, one_taken}
use Rattle.session_keeping.proofs.keeping.keep.Goals as goal

pub returns-in_err-admitted : goal.returns-in_err-admitted
returns-in_err-admitted c =
    let room = c.args.room.now in
    let window = c.args.window.now in
    let packet = c.args.packet.now in
    let admitted = c.admit.ensures in
    let bytes : Bytes packet = bytes_of packet (λ i. omega (arith, c.type_inv.packet i)) in
    let p = err_from_is_err_and c.from_residual.result c.from_residual.ensures.1 in
    let refused = c.in_err-admitted.was ∙ ap Err (sym p.2) in
    record {
      answer = p.1 ∙ answer_refused (line_in room window) packet admitted.answer refused;
      held = λ s rule. one_refused rule packet admitted.answer admitted.kept refused;
      rule = λ s rule. one_ruled rule packet bytes (one_refused rule packet admitted.answer admitted.kept refused);
    }

pub returns : goal.returns
returns c =
    let room = c.args.room.now in
    let window = c.args.window.now in
    let packet = c.args.packet.now in
    let admitted = c.admit.ensures in
    let bytes : Bytes packet = bytes_of packet (λ i. omega (arith, c.type_inv.packet i)) in
    let taken = c.in_ok-admitted.was in
    record {
      answer = answer_fresh (line_in room window) packet admitted.answer taken;
      held = λ s rule. one_taken rule packet admitted.answer admitted.kept taken;
      rule = λ s rule. one_ruled rule packet bytes (one_taken rule packet admitted.answer admitted.kept taken);
    }

pub admit-requires : goal.admit-requires
admit-requires c = record { neat = neat_here c.requires.1; known = known_here c.requires.1 }
