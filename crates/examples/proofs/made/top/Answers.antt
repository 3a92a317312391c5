-- `examples::made::top` meets its contract: its symbol is the one that `symbol_of` gives.
-- Assumes nothing.
use Rattle.examples.proofs.Texts.{symbol_is}
use Rattle.examples.proofs.made.top.Goals as goal

pub returns : goal.returns
returns c = symbol_is c.symbol_of-symbol.ensures
