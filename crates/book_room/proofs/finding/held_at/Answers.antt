-- The place that the index of symbols tells.
-- Assumes nothing.
use native.Mathlib.Omega.{arith}
use Rattle.book_room.proofs.Finds.{held_same, is_held, no_symbol, pair_in}
use Rattle.book_room.proofs.Lying.{filled, long, paired, symbols_apart}
use Rattle.book_room.proofs.finding.held_at.Goals as goal

pub returns-then-first-eq0 : goal.returns-then-first-eq0
returns-then-first-eq0 c next end b lies =
    no_symbol c.args.symbol b.fronts b.backs b.held
    c.front-first.ensures c.back-last.ensures c.if-first-eq0.true

pub returns : goal.returns
returns c next end b lies =
    is_held c.args.symbol b.fronts b.backs b.held
    c.front-first.ensures c.back-last.ensures
    (held_same lies) (symbols_apart lies.kept) c.if-first-eq0.false (pair_in lies c.pair.ensures)

pub bounds-room-3 : goal.bounds-room-3
bounds-room-3 c = omega (arith, long (filled c.requires.3))

pub slice_bounds-pair-end : goal.slice_bounds-pair-end
slice_bounds-pair-end c = omega (arith, long (filled c.requires.3))

pub slice_bounds-pair-end-2 : goal.slice_bounds-pair-end-2
slice_bounds-pair-end-2 c = omega (arith, long (filled c.requires.3))

pub slice_bounds-pair-end-3 : goal.slice_bounds-pair-end-3
slice_bounds-pair-end-3 c = omega (arith, long (filled c.requires.3))

pub pair-requires : goal.pair-requires
pair-requires c = paired (filled c.requires.3)
