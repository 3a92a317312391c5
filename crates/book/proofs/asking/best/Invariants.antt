-- `best` goes from the last order to the first: the level is that of the orders behind.
-- Assumes nothing.
use Rattle.book.proofs.Answers.{Going}
use Rattle.book.proofs.asking.best.Given as goal

abbrev pub invariant-loop-k : goal.invariant-loop-k
invariant-loop-k l = Going l.fn.symbol l.side l.orders l.k l.level
