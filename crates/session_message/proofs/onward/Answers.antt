-- Past a message.
-- Assumes nothing.
use mathlib.Core.Path.{sym}
use native.Mathlib.Omega.{arith}
use Rattle.session_message.proofs.Choices.{onward_packet, onward_window}
use Rattle.session_message.proofs.onward.Goals as goal

pub returns-then-rest-eq0 : goal.returns-then-rest-eq0
returns-then-rest-eq0 c = sym (onward_window c.args.rest c.if-rest-eq0.true c.args.size)

pub returns : goal.returns
returns c = sym (onward_packet c.args.rest c.if-rest-eq0.false c.args.size)

pub overflow_sub-result : goal.overflow_sub-result
overflow_sub-result c = omega (arith, c.requires.due c.if-rest-eq0.true)

pub overflow_add-from : goal.overflow_add-from
overflow_add-from c = omega (arith, c.requires.within c.if-rest-eq0.false)
