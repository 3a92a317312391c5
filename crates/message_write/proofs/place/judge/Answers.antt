-- `message_write::judge` meets its contract: each way out is the first test that applies.
-- Assumes nothing.
use mathlib.Core.Path.{◌∙◌, sym}
use Rattle.message_write.proofs.Writing.{broken, past, short, fits}
use Rattle.message_write.proofs.place.judge.Goals as goal

pub returns-then-n-at : goal.returns-then-n-at
returns-then-n-at c = past _ _ _ _ c.requires (sym c.good.ensures ∙ c.if-good.true) c.size_of-size.ensures c.if-n-at.true

pub returns-then-n-at-2 : goal.returns-then-n-at-2
returns-then-n-at-2 c = short _ _ _ _ c.requires (sym c.good.ensures ∙ c.if-good.true) c.size_of-size.ensures c.if-n-at.false c.if-n-at-2.true

pub returns-then-good : goal.returns-then-good
returns-then-good c = fits _ _ _ _ c.requires (sym c.good.ensures ∙ c.if-good.true) c.size_of-size.ensures c.if-n-at.false c.if-n-at-2.false

pub returns : goal.returns
returns c = broken _ _ _ _ c.requires (sym c.good.ensures ∙ c.if-good.false)
