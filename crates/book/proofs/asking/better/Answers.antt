-- By the side.
-- Assumes nothing.
use borrow.Author.Tests.{eq-eqb, ne_eqb}
use Rattle.book.specs.Asking.{better}
use Rattle.book.proofs.asking.better.Goals as goal

pub returns-then-side-eq66 : goal.returns-then-side-eq66
unfolding better
returns-then-side-eq66 c = simp (eq-eqb _ _ c.if-side-eq66.true)

pub returns-else-side-eq66 : goal.returns-else-side-eq66
unfolding better
returns-else-side-eq66 c = simp (ne_eqb _ _ c.if-side-eq66.false)
