-- Where a packet lies: the rest of the bytes, or behind its length.
-- Assumes nothing.
use mathlib.Core.Path.{◌∙◌}
use native.Mathlib.Omega.{arith}
use Rattle.window_taking.proofs.Frames.{one_within, two_within, one_frame, two_frame}
use Rattle.window_burst.proofs.frame_of.Goals as goal

pub returns-then-single : goal.returns-then-single
returns-then-single c = one_frame c.requires c.if-single.true

pub framed-requires : goal.framed-requires
framed-requires c = two_within c.requires c.if-single.false

pub returns : goal.returns
returns c = c.framed.ensures ∙ two_frame c.requires c.if-single.false

pub overflow_sub-result : goal.overflow_sub-result
overflow_sub-result c = omega (arith, one_within c.requires c.if-single.true)
