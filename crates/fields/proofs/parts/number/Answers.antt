-- `number` begins with no character read.
use Rattle.fields.proofs.Begun.{begun_none}
use Rattle.fields.proofs.parts.number.Goals as goal

pub number_from-requires : goal.number_from-requires
number_from-requires c = begun_none _
