-- A reader's `next` is its step, and comes to an end.
-- Assumes nothing.
use Rattle.packet_reader.proofs.Handing.{progress}
use Rattle.packet_reader.proofs.read.ReaderIterator.next.Goals as goal

pub returns-clause-goes : goal.returns-clause-goes
returns-clause-goes c = progress _ _ _ _ (λ x. tt) c.step-handed.ensures
