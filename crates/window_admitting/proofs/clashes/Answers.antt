-- Test 10, where a packet may differ from what waits at all.
-- Assumes nothing.
use Rattle.window_taking.proofs.Admits.{none_clashes}
use Rattle.window_admitting.proofs.clashes.Goals as goal

pub returns-then-end-first : goal.returns-then-end-first
returns-then-end-first c = none_clashes _ _ _ c.requires.known c.if-end-first.true
