-- `text::number::put` meets its contract: the digits are those that `io::decimal` gives.
-- Assumes nothing.
use Rattle.text.proofs.Spelling.{put_number_lem}
use Rattle.text.proofs.number.put.Goals as goal

pub returns : goal.returns
returns c =
    let d = c.decimal-count.ensures in
    put_number_lem _ _ _ _ _ _ _ d.len d.digits c.put.ensures
