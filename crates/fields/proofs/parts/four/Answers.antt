-- `four` joins the digits by pairs, and the pairs; neither runs over into the other.
use Rattle.std.proofs.Common.{arith}
use lib.Bits.{and_le_r}
use Rattle.fields.proofs.Four.{pairs_are}
use Rattle.fields.proofs.parts.four.Goals as goal

pub overflow_mul-pairs : goal.overflow_mul-pairs
overflow_mul-pairs c = omega (arith, and_le_r c.args.digits 0x003f_003f)

pub overflow_add-pairs : goal.overflow_add-pairs
overflow_add-pairs c = omega (arith, pairs_are c.args.digits c.ranges.digits.fits)

pub overflow_add-result : goal.overflow_add-result
overflow_add-result c = omega (arith, pairs_are c.args.digits c.ranges.digits.fits)

pub overflow_cast-result : goal.overflow_cast-result
overflow_cast-result c = omega (arith, pairs_are c.args.digits c.ranges.digits.fits)

pub returns : goal.returns
returns c = omega (arith, pairs_are c.args.digits c.ranges.digits.fits)
