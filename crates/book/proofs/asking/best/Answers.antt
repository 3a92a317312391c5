-- `best` goes from the last order to the first: the level is that of the orders behind.
-- Assumes nothing.
use mathlib.Core.Path.{◌∙◌, sym}
use native.Mathlib.Omega.{arith}
use Rattle.book.proofs.Answers.{bad_side, bad_symbol, best_all, best_room, best_start, best_step, no_best, the_best, zero_level}
use Rattle.book.proofs.asking.best.Goals.{then-not-good_symbol-via-then-not-good_symbol, then-not-good_symbol-via-else-not-good_symbol+then-not-good_side}
use Rattle.book.proofs.asking.best.Goals as goal

pub loop-k-init : goal.loop-k-init
loop-k-init c = let zero = c.default-level.ensures in best_start _ _ _ (zero_level zero.0 zero.1.0 zero.1.1)

pub join-level-requires : goal.join-level-requires
join-level-requires c = best_room _ _ _ c.loop-k.invariant c.requires c.loop-k-test.true

pub loop-k-preserved : goal.loop-k-preserved
loop-k-preserved c = best_step _ _ _ c.loop-k.invariant c.loop-k-test.true (c.join-level.ensures _ c.from-parts.ensures)

pub returns-then-not-good_symbol : goal.returns-then-not-good_symbol
returns-then-not-good_symbol c =
    elim c.then-not-good_symbol.branch [
      | then-not-good_symbol-via-then-not-good_symbol w ↦ bad_symbol _ _ _ (sym c.good_symbol.ensures ∙ w.if-not-good_symbol.true)
      | then-not-good_symbol-via-else-not-good_symbol+then-not-good_side w ↦ bad_side _ _ _ (sym w.good_side.ensures ∙ w.if-not-good_side.true)
    ]

pub returns-then-level-eq0 : goal.returns-then-level-eq0
returns-then-level-eq0 c =
    no_best _ _ _ (sym c.good_symbol.ensures ∙ c.if-not-good_symbol.false) (sym c.good_side.ensures ∙ c.if-not-good_side.false)
    (best_all _ _ _ c.loop-k.invariant (omega (arith, c.loop-k-test.false))) c.if-level-eq0.true

pub returns : goal.returns
returns c =
    the_best _ _ _ (sym c.good_symbol.ensures ∙ c.if-not-good_symbol.false) (sym c.good_side.ensures ∙ c.if-not-good_side.false)
    (best_all _ _ _ c.loop-k.invariant (omega (arith, c.loop-k-test.false))) c.if-level-eq0.false
