-- The message of numbers, by whether all of them fit.
-- Assumes nothing.
use Rattle.single.proofs.Giving.{all_fit, field_wide, filled, type_wide, words_laid}
use Rattle.single.proofs.messages.given.Goals as goal

pub returns-then-first-ge256 : goal.returns-then-first-ge256
returns-then-first-ge256 c = type_wide c.args.numbers.now c.if-first-ge256.true

pub fill-requires : goal.fill-requires
fill-requires c = words_laid _ c.words_of.ensures

pub returns-then-fill : goal.returns-then-fill
returns-then-fill c = field_wide c.args.numbers.now c.if-first-ge256.false c.words_of.ensures c.fill.ensures.wide c.if-fill.true

pub fields-requires : goal.fields-requires
fields-requires c = filled _ c.args.numbers.now c.words_of.ensures (c.fill.ensures.bytes c.if-fill.false)

pub returns : goal.returns
returns c = all_fit c.args.numbers.now c.if-first-ge256.false c.words_of.ensures c.fill.ensures.wide c.if-fill.false (c.fill.ensures.bytes c.if-fill.false) c.fields.ensures
