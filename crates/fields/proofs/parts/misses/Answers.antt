-- `misses` is the four tests, gathered.
use Rattle.std.proofs.Common.{arith, rules}
use lib.Bits.{and_le_r}
use Rattle.fields.proofs.Four.{misses_from}
use Rattle.fields.proofs.parts.misses.Goals as goal

pub overflow_mul-text : goal.overflow_mul-text
overflow_mul-text c = omega (arith, and_le_r c.args.text 0x7f7f_7f7f)

pub returns : goal.returns
returns c =
    misses_from (search rules) c.requires c.wrapping_add_u32.ensures.value c.tops-large.ensures
    c.wrapping_add_u32-2.ensures.value c.tops-tens.ensures c.tops-letters.ensures c.tops.ensures
