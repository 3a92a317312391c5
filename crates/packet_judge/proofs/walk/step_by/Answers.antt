-- `packet::walk::step_by` meets its contract: each way out is the test that decides it.
-- Assumes nothing.
use Rattle.std.proofs.Common.{ap, ◌∙◌, sym}
use Rattle.packet.specs.Walk.{some_size}
use Rattle.packet.proofs.Walking.{past, small, large, over, short, sized, whole}
use native.Mathlib.Omega.{arith}
use Rattle.packet_judge.proofs.walk.step_by.Goals as goal

pub returns-then-left-lt-HEADER : goal.returns-then-left-lt-HEADER
returns-then-left-lt-HEADER c = ap some_size (past _ _ c.requires c.if-left-lt-HEADER.true)

pub returns-then-size-lt-HEADER : goal.returns-then-size-lt-HEADER
returns-then-size-lt-HEADER c = ap some_size (small _ _ c.requires c.if-left-lt-HEADER.false c.number_at-size.ensures c.if-size-lt-HEADER.true)

pub returns-then-size-gt-LONGEST : goal.returns-then-size-gt-LONGEST
returns-then-size-gt-LONGEST c = ap some_size (large _ _ c.requires c.if-left-lt-HEADER.false c.number_at-size.ensures c.if-size-lt-HEADER.false c.if-size-gt-LONGEST.true)

pub returns-then-left-size : goal.returns-then-left-size
returns-then-left-size c = ap some_size (over _ _ c.requires c.if-left-lt-HEADER.false c.number_at-size.ensures c.if-size-lt-HEADER.false c.if-size-gt-LONGEST.false c.if-left-size.true)

pub returns-then-too_short : goal.returns-then-too_short
returns-then-too_short c = ap some_size (short _ _ c.requires c.if-left-lt-HEADER.false c.number_at-size.ensures c.if-size-lt-HEADER.false c.if-size-gt-LONGEST.false c.if-left-size.false c.number_at.ensures (sym c.too_short.ensures ∙ c.if-too_short.true))

pub returns : goal.returns
returns c = sized (omega (arith, c.if-size-lt-HEADER.false)) (whole _ _ c.requires c.if-left-lt-HEADER.false c.number_at-size.ensures c.if-size-lt-HEADER.false c.if-size-gt-LONGEST.false c.if-left-size.false c.number_at.ensures (sym c.too_short.ensures ∙ c.if-too_short.false))
