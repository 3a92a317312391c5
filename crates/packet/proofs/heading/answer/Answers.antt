-- `packet::answer` meets its contract: each way out is the first test that applies.
-- Assumes nothing.
use Rattle.packet.proofs.Headers.{none_tests, one_tests}
use Rattle.packet.proofs.Writings.{small, large, forbidden, narrow, fits}
use Rattle.packet.proofs.heading.answer.Goals as goal

pub returns-then-size-lt-BARE : goal.returns-then-size-lt-BARE
returns-then-size-lt-BARE c = small _ _ c.if-size-lt-BARE.true

pub returns-then-size-gt-FULL : goal.returns-then-size-gt-FULL
returns-then-size-gt-FULL c = large _ _ c.if-size-lt-BARE.false c.if-size-gt-FULL.true

pub returns-then-is_err : goal.returns-then-is_err
returns-then-is_err c = forbidden _ _ c.if-size-lt-BARE.false c.if-size-gt-FULL.false (one_tests _ c.flagged-judged.ensures c.if-is_err.ensures.value)

pub returns-then-n-lt-HEADER : goal.returns-then-n-lt-HEADER
returns-then-n-lt-HEADER c = narrow _ _ c.if-size-lt-BARE.false c.if-size-gt-FULL.false (none_tests _ c.flagged-judged.ensures c.if-is_err.ensures.value) c.if-n-lt-HEADER.true

pub returns : goal.returns
returns c = fits _ _ c.if-size-lt-BARE.false c.if-size-gt-FULL.false (none_tests _ c.flagged-judged.ensures c.if-is_err.ensures.value) c.if-n-lt-HEADER.false
