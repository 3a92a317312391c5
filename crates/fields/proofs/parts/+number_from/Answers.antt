-- `number_from` meets its contract: each answer is a law of what is read so far.
use Rattle.std.proofs.Common.{ap, ◌∙◌, rules}
use Rattle.fields.specs.Four.{four_of}
use Rattle.fields.proofs.Begun.{begun_done, begun_bad, begun_more}
use Rattle.fields.proofs.parts.+number_from.Goals as goal

pub returns-then-missed-eq0 : goal.returns-then-missed-eq0
returns-then-missed-eq0 t c = begun_done c.requires c.if-left-eq0.true c.if-missed-eq0.true

pub returns-then-left-eq0 : goal.returns-then-left-eq0
returns-then-left-eq0 t c = begun_bad c.requires c.if-left-eq0.true c.if-missed-eq0.false

pub number_from-requires : goal.number_from-requires
number_from-requires t c =
    let worth = c.four-value.ensures ∙ ap four_of c.digits-digits.ensures in (
      search rules,
      begun_more c.requires c.if-left-eq0.false (search rules) c.four_at-text.ensures worth _ c.misses-misses.ensures,
    )
