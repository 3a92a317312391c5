-- `text::hex::glyph` meets its contract.
-- Assumes nothing.
use borrow.Author.Tests.{lt-ltb, le-ltb}
use Rattle.text.specs.Hex.{glyph_of}
use Rattle.text.proofs.hex.glyph.Goals as goal

pub returns-then-digit-lt10 : goal.returns-then-digit-lt10
unfolding glyph_of
returns-then-digit-lt10 c = simp (lt-ltb _ _ c.if-digit-lt10.true)

pub returns-else-digit-lt10 : goal.returns-else-digit-lt10
unfolding glyph_of
returns-else-digit-lt10 c = simp (le-ltb _ _ c.if-digit-lt10.false)
