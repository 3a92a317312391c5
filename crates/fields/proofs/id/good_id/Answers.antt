-- An id is good exactly where its answer is a value.
use Rattle.std.proofs.Common.{◌∙◌}
use Rattle.fields.proofs.Ids.{accepted_good}
use Rattle.fields.proofs.id.good_id.Goals as goal

pub returns : goal.returns
returns c = c.is_ok.ensures.value ∙ accepted_good c.args.id c.value.ensures
