-- `message_read::read` meets its contract: each way out is the first test that applies.
-- Assumes nothing.
use mathlib.Core.Path.{◌∙◌, sym}
use Rattle.message.proofs.Readings.{few, many, another, shorter, good, broken}
use Rattle.message_read.proofs.read.Goals as goal

pub returns-then-n-lt-HEADER : goal.returns-then-n-lt-HEADER
returns-then-n-lt-HEADER c = few _ c.if-n-lt-HEADER.true

pub returns-then-n-gt-LONGEST : goal.returns-then-n-gt-LONGEST
returns-then-n-gt-LONGEST c = many _ c.if-n-lt-HEADER.false c.if-n-gt-LONGEST.true

pub returns-then-size-n : goal.returns-then-size-n
returns-then-size-n c = another _ c.if-n-lt-HEADER.false c.if-n-gt-LONGEST.false c.number_at-size.ensures c.if-size-n.true

pub returns-then-too_short : goal.returns-then-too_short
returns-then-too_short c = shorter _ c.if-n-lt-HEADER.false c.if-n-gt-LONGEST.false c.number_at-size.ensures c.if-size-n.false c.number_at-kind.ensures (sym c.too_short.ensures ∙ c.if-too_short.true)

pub fields-message-requires : goal.fields-message-requires
fields-message-requires c = sym c.too_short.ensures ∙ c.if-too_short.false

pub returns-then-good : goal.returns-then-good
returns-then-good c = good _ c.if-n-lt-HEADER.false c.if-n-gt-LONGEST.false c.number_at-size.ensures c.if-size-n.false c.number_at-kind.ensures (sym c.too_short.ensures ∙ c.if-too_short.false) c.fields-message.ensures (sym c.good.ensures ∙ c.if-good.true)

pub returns : goal.returns
returns c = broken _ c.if-n-lt-HEADER.false c.if-n-gt-LONGEST.false c.number_at-size.ensures c.if-size-n.false c.number_at-kind.ensures (sym c.too_short.ensures ∙ c.if-too_short.false) c.fields-message.ensures (sym c.good.ensures ∙ c.if-good.false)
