-- `examples::made::told` meets its contract, a word at a time.
-- Assumes nothing.
use Rattle.examples.proofs.Told.{told_is}
use Rattle.examples.proofs.made.told.Goals as goal

pub returns : goal.returns
returns c =
    let kind = c.before in
    let second = kind.before in
    let first = second.before in
    let side = first.before in
    told_is _ _ kind.letter.ensures side.number.ensures side.letter-side.ensures first.number-first.ensures second.number-second.ensures c.named_by.ensures
