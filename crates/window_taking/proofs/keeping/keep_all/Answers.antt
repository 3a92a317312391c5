-- All messages of a packet kept, the rest of them at each turn.
-- Assumes nothing.
use mathlib.Core.Path.{refl}
use native.Mathlib.Omega.{arith}
use Rattle.window_taking.proofs.Keeps.{count_end, going_start, going_end, going_next, one_small, whole_here, near, room, far}
use Rattle.window_taking.proofs.keeping.keep_all.Goals as goal

pub loop-k-init : goal.loop-k-init
loop-k-init c = going_start c.requires.neat c.requires.passed (omega arith)

pub number_at-size-requires : goal.number_at-size-requires
number_at-size-requires c = room c.loop-k.invariant (omega (arith, c.loop-k-test.true)) refl

pub keep_one-fresh-requires : goal.keep_one-fresh-requires
keep_one-fresh-requires c = record { neat = c.loop-k.invariant.neat; whole = whole_here c.loop-k.invariant (omega (arith, c.loop-k-test.true)) c.number_at-size.ensures; k_bound = near c.loop-k.invariant (omega (arith, c.loop-k-test.true)) c.number_at-size.ensures }

pub overflow_add-fresh : goal.overflow_add-fresh
overflow_add-fresh c = omega (arith, c.loop-k.invariant.few, one_small c.loop-k.invariant (omega (arith, c.loop-k-test.true)) c.number_at-size.ensures c.keep_one-fresh.ensures.fresh, near c.loop-k.invariant (omega (arith, c.loop-k-test.true)) c.number_at-size.ensures, c.loop-k.invariant.neat.top)

pub overflow_add-at : goal.overflow_add-at
overflow_add-at c = omega (arith, far c.loop-k.invariant (omega (arith, c.loop-k-test.true)) c.number_at-size.ensures)

pub overflow_add-k-end : goal.overflow_add-k-end
overflow_add-k-end c = omega (arith, c.requires.passed.near, c.requires.neat.top)

pub loop-k-preserved : goal.loop-k-preserved
loop-k-preserved c = going_next c.loop-k.invariant (omega (arith, c.loop-k-test.true)) c.number_at-size.ensures c.keep_one-fresh.ensures.fresh c.keep_one-fresh.ensures.kept (omega arith)

pub returns : goal.returns
returns c = record { fresh = count_end c.loop-k.invariant (omega (arith, c.loop-k-test.false)); kept = going_end c.loop-k.invariant (omega (arith, c.loop-k-test.false)) }

pub slice_bounds-keep_one-end : goal.slice_bounds-keep_one-end
slice_bounds-keep_one-end c = far c.loop-k.invariant (omega (arith, c.loop-k-test.true)) c.number_at-size.ensures
