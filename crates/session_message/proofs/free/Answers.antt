-- A place of the window is made free, the packet left alone.
-- Assumes nothing.
use mathlib.Core.Path.{sym, ◌∙◌}
use Rattle.session_message.proofs.Choices.{freed-packet, freed_window}
use Rattle.session_message.proofs.free.Goals as goal

pub returns-then-rest-eq0 : goal.returns-then-rest-eq0
returns-then-rest-eq0 c = c.clear.ensures ∙ sym (freed_window c.args.rest c.if-rest-eq0.true c.args.window.now c.args.place)

pub returns-else-rest-eq0 : goal.returns-else-rest-eq0
returns-else-rest-eq0 c = sym (freed-packet c.args.rest c.if-rest-eq0.false c.args.window.now c.args.place)

pub clear-requires : goal.clear-requires
clear-requires c = c.requires
