-- `digits` subtracts at most 55 a byte; what wraps is what the definition takes modulo 2 ^ 32.
use Rattle.std.proofs.Common.{arith, rules}
use lib.Bits.{and_le_r}
use Rattle.fields.specs.Four.{digits_of}
use Rattle.fields.proofs.Four.{wrapped}
use Rattle.fields.proofs.parts.digits.Goals as goal

pub overflow_mul-letters : goal.overflow_mul-letters
overflow_mul-letters c = omega (arith, and_le_r c.args.text 0x4040_4040)

pub overflow_add-letters : goal.overflow_add-letters
overflow_add-letters c = omega (arith, and_le_r c.args.text 0x4040_4040)

pub returns : goal.returns
unfolding digits_of
returns c =
    wrapped c.args.text _ c.wrapping_sub_u32.result
    (omega (arith, and_le_r c.args.text 0x4040_4040)) (search rules) c.wrapping_sub_u32.ensures.value
