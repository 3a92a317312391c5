-- The replies to the questions so far stand one behind the other.
-- Assumes nothing.
use Rattle.session.specs.Meaning.{tables_in}
use Rattle.session_quotes.proofs.Quests.{Standing}
use Rattle.session_quotes.proofs.quotes.Given as goal

abbrev pub invariant-loop-k : goal.invariant-loop-k
invariant-loop-k l = Standing (tables_in l.session l.room) l.asked l.fn.replies l.replies l.k
