-- `value` takes the id's number apart by whether an id can have it.
use Rattle.fields.proofs.Ids.{answer_none, answer_some}
use Rattle.fields.proofs.id.value.Goals as goal

pub returns-then-number-eq-NONE : goal.returns-then-number-eq-NONE
returns-then-number-eq-NONE c = answer_none c.args.id c.number-number.ensures c.if-number-eq-NONE.true

pub returns : goal.returns
returns c = answer_some c.args.id c.number-number.ensures c.if-number-eq-NONE.false
