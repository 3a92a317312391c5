-- The size at a place, or before the message in the packet.
-- Assumes nothing.
use mathlib.Core.Path.{ap, sym, ◌∙◌}
use Rattle.window.specs.Window.{some_size}
use Rattle.session_message.proofs.Choices.{size_packet, size_window}
use Rattle.session_message.proofs.size.Goals as goal

pub returns-then-rest-eq0 : goal.returns-then-rest-eq0
returns-then-rest-eq0 c = c.size_due.ensures ∙ ap some_size (sym (size_window c.args.rest c.if-rest-eq0.true c.args.window.now c.args.s.now c.args.place))

pub returns : goal.returns
returns c = c.some_size.ensures ∙ ap some_size (c.number_at.ensures ∙ sym (size_packet c.args.rest c.if-rest-eq0.false c.args.window.now c.args.s.now c.args.place))

pub number_at-requires : goal.number_at-requires
number_at-requires c = c.requires.begins.within c.if-rest-eq0.false
