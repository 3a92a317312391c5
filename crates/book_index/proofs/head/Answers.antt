-- The head of a key's chain is behind the 256 places.
-- Assumes nothing.
use Rattle.book_index.specs.Chains.{chain_of}
use borrow.Author.Rules.{rules}
use Rattle.book_index.proofs.head.Goals as goal

pub returns : goal.returns
unfolding chain_of
returns c = search rules
