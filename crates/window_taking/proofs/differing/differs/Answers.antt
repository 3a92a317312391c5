-- All messages of a packet against what waits, the rest of them at each turn.
-- Assumes nothing.
use mathlib.Core.Path.{refl}
use native.Mathlib.Omega.{arith}
use Rattle.window_taking.proofs.Differs.{seek_start, seek_end, seek_framed, seek_whole, seek_near, seek_room, seek_here, seek_next}
use Rattle.window_taking.proofs.differing.differs.Goals as goal

pub loop-k-init : goal.loop-k-init
loop-k-init c = seek_start c.requires.neat c.requires.passed (omega arith)

pub number_at-size-requires : goal.number_at-size-requires
number_at-size-requires c = seek_room c.loop-k.invariant (omega (arith, c.loop-k-test.true)) refl

pub differs_at-requires : goal.differs_at-requires
differs_at-requires c = record { neat = c.loop-k.invariant.neat; whole = seek_whole c.loop-k.invariant (omega (arith, c.loop-k-test.true)) c.number_at-size.ensures; k_bound = seek_near c.loop-k.invariant (omega (arith, c.loop-k-test.true)) c.number_at-size.ensures }

pub returns-then-differs_at : goal.returns-then-differs_at
returns-then-differs_at c = seek_here c.loop-k.invariant (omega (arith, c.loop-k-test.true)) c.number_at-size.ensures c.differs_at.ensures c.if-differs_at.true

pub overflow_add-at : goal.overflow_add-at
overflow_add-at c = omega (arith, (seek_framed c.loop-k.invariant (omega (arith, c.loop-k-test.true)) c.number_at-size.ensures).within)

pub overflow_add-k-end : goal.overflow_add-k-end
overflow_add-k-end c = omega (arith, c.requires.passed.near, c.requires.neat.top)

pub loop-k-preserved : goal.loop-k-preserved
loop-k-preserved c = seek_next c.loop-k.invariant (omega (arith, c.loop-k-test.true)) c.number_at-size.ensures c.differs_at.ensures c.if-differs_at.false (omega arith)

pub returns : goal.returns
returns c = seek_end c.loop-k.invariant (omega (arith, c.loop-k-test.false))

pub slice_bounds-differs_at-end : goal.slice_bounds-differs_at-end
slice_bounds-differs_at-end c = (seek_framed c.loop-k.invariant (omega (arith, c.loop-k-test.true)) c.number_at-size.ensures).within
