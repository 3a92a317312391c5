-- The packet at a place, judged and kept.
-- Assumes nothing.
use mathlib.Core.Path.{refl}
use native.Mathlib.Omega.{arith}
use Rattle.std.proofs.Common.{Err, Ok}
use Rattle.window_taking.proofs.Frames.{began, frame_stop, head_stop, kept}
use Rattle.window_burst.proofs.begin.Goals as goal

pub returns-in-Ok : goal.returns-in-Ok
returns-in-Ok c =
    let lies = c.requires.lies in
    let framed = c.frame_of-frame.ensures in
    let admitted = c.in-Ok.ensures in
    record {
      turn = began lies framed c.args.window.now c.args.next c.args.end c.args.left c.args.place {r = Ok c.in-Ok.admitted} admitted.answer c.min.ensures c.from_of.ensures;
      kept = kept lies framed c.args.window.now c.args.next c.args.end admitted.kept;
    }

pub returns-in-Err : goal.returns-in-Err
returns-in-Err c =
    let lies = c.requires.lies in
    let framed = c.frame_of-frame.ensures in
    let admitted = c.in-Err.ensures in
    record {
      turn = began lies framed c.args.window.now c.args.next c.args.end c.args.left c.args.place {r = Err c.in-Err.refusal} admitted.answer c.min.ensures refl;
      kept = kept lies framed c.args.window.now c.args.next c.args.end admitted.kept;
    }

pub overflow_add-stop : goal.overflow_add-stop
overflow_add-stop c = omega (arith, frame_stop c.requires.lies c.frame_of-frame.ensures)

pub overflow_add-from : goal.overflow_add-from
overflow_add-from c = omega (arith, head_stop c.requires.lies c.frame_of-frame.ensures c.min.ensures)

pub slice_bounds-admit-end : goal.slice_bounds-admit-end
slice_bounds-admit-end c = frame_stop c.requires.lies c.frame_of-frame.ensures
