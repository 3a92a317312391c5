-- What was copied out, or the part of the packet.
-- Assumes nothing.
use mathlib.Core.Path.{sym}
use native.Mathlib.Omega.{arith}
use lib.Seq.{length-take-le}
use Rattle.session_message.proofs.Choices.{lent-packet, message_window}
use Rattle.session_message.proofs.message.Goals as goal

pub slice_bounds-result-end : goal.slice_bounds-result-end
slice_bounds-result-end c = sym (length-take-le c.args.size c.args.text.now c.requires.size_in_bounds)

pub returns-then-rest-eq0 : goal.returns-then-rest-eq0
returns-then-rest-eq0 c = sym (message_window c.args.rest c.if-rest-eq0.true c.args.text.now c.args.s.now c.args.size)

pub returns : goal.returns
returns c = lent-packet c.args.rest c.if-rest-eq0.false c.args.text.now c.requires.lies

pub overflow_add-stop : goal.overflow_add-stop
overflow_add-stop c = omega (arith, c.requires.lies.within c.if-rest-eq0.false)

pub slice_bounds-result-end-2 : goal.slice_bounds-result-end-2
slice_bounds-result-end-2 c = c.requires.lies.within c.if-rest-eq0.false
