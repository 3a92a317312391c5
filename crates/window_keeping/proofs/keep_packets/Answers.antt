-- One packet at each turn, until none follows.
-- Assumes nothing.
use mathlib.Core.Path.{◌∙◌, ap, sym}
use native.Mathlib.Omega.{arith}
use Rattle.wire.specs.Number.{Bytes}
use Rattle.window_taking.specs.declared.burst.Turn.{Turn}
use Rattle.window_taking.proofs.Passing.{bytes_of}
use Rattle.window_keeping.proofs.Bursts.{at_end, end_end, going_next, going_start, hands, rows_end, taken_end, window_end}
use Rattle.window_keeping.proofs.keep_packets.Goals as goal

pub loop-window-init : goal.loop-window-init
loop-window-init c = going_start c.args.s.now c.requires.neat c.requires.known c.requires.count_in_bounds c.start-turn.ensures

pub done-requires : goal.done-requires
done-requires c = c.loop-window.invariant.within

pub keep_next-turn-requires : goal.keep_next-turn-requires
keep_next-turn-requires c =
    let g = c.loop-window.invariant in
    let other = sym c.done.ensures ∙ c.loop-window-test.true in
    record { neat = g.neat; known = g.known; hands = hands g other }

pub loop-window-preserved : goal.loop-window-preserved
loop-window-preserved c =
    let kept = c.keep_next-turn.ensures in
    let other = sym c.done.ensures ∙ c.loop-window-test.true in
    let bytes : Bytes c.args.s.now = bytes_of c.args.s.now (λ i. omega (arith, c.type_inv.s i)) in
    going_next c.loop-window.invariant other bytes kept.turn kept.answers kept.kept

pub loop-window-smaller : goal.loop-window-smaller
loop-window-smaller c =
    let g = c.loop-window.invariant in
    let other = sym c.done.ensures ∙ c.loop-window-test.true in
    omega (arith, (hands g other).left, ap (λ (t : Turn). t.left) c.keep_next-turn.ensures.turn)

pub overflow_sub-result : goal.overflow_sub-result
overflow_sub-result c = omega (arith, c.loop-window.invariant.left)

pub shape_of-answers : goal.shape_of-answers
shape_of-answers c = c.loop-window.invariant.long

pub returns : goal.returns
returns c =
    let g = c.loop-window.invariant in
    let none = sym c.done.ensures ∙ c.loop-window-test.false in
    record { kept = window_end g none; answers = rows_end g none; taken = taken_end g none; at = at_end g none; end = end_end g none }
