-- Each number by the question that answers it.
-- Assumes nothing.
use Rattle.exports.proofs.Told.{numbers_told}
use Rattle.exports.proofs.asking.jangsebit_numbers.Goals as goal

pub returns : goal.returns
returns c = numbers_told c.args.room.now c.args.told.now c.next-next.ensures c.end-end.ensures c.code-code.ensures c.faults-faults.ensures
