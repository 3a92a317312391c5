-- A message told, by cases of what reading gives.
-- Assumes nothing.
use Rattle.single.proofs.Laying.{read_accepted, read_laid}
use Rattle.single.proofs.messages.read.Goals as goal

pub tell-requires : goal.tell-requires
tell-requires c = read_laid _ _ (c.in-Ok.ensures {u = tt})

pub returns-in-Ok-clause-told : goal.returns-in-Ok-clause-told
returns-in-Ok-clause-told c = read_accepted _ _ _ (c.in-Ok.ensures {u = tt}) c.tell.ensures
