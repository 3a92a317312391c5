-- `examples::made::named` meets its contract: its id is the one that `id_of` gives.
-- Assumes nothing.
use Rattle.examples.proofs.Texts.{id_is}
use Rattle.examples.proofs.made.named.Goals as goal

pub returns : goal.returns
returns c = id_is c.id_of-id.ensures
