-- `packet::tested` meets its contract: each way out is the first test that applies.
-- Assumes nothing.
use mathlib.Core.Path.{ap, ◌∙◌}
use Rattle.packet.specs.Header.{told}
use Rattle.packet.proofs.Headers.{few, many, another, flags}
use Rattle.packet.proofs.header.tested.Goals as goal

pub returns-then-n-lt-HEADER : goal.returns-then-n-lt-HEADER
returns-then-n-lt-HEADER c = ap told c.rejected.ensures ∙ few _ c.if-n-lt-HEADER.true

pub returns-then-n-gt-LONGEST : goal.returns-then-n-gt-LONGEST
returns-then-n-gt-LONGEST c = ap told c.rejected-then-n-gt-LONGEST.ensures ∙ many _ c.if-n-lt-HEADER.false c.if-n-gt-LONGEST.true

pub returns-then-header-n : goal.returns-then-header-n
returns-then-header-n c = ap told c.rejected-then-header-n.ensures ∙ another _ c.if-n-lt-HEADER.false c.if-n-gt-LONGEST.false c.fields-header.ensures c.if-header-n.true

pub returns : goal.returns
returns c = c.flagged.ensures ∙ flags _ c.if-n-lt-HEADER.false c.if-n-gt-LONGEST.false c.fields-header.ensures c.if-header-n.false
