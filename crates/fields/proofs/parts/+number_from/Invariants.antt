-- The measure of `number_from` is the count of characters left.
use Rattle.fields.proofs.parts.+number_from.Given as goal

abbrev pub decreases-number_from : goal.decreases-number_from
decreases-number_from l = l.left
