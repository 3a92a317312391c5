-- What stands at a place, or what was there before.
-- Assumes nothing.
use mathlib.Core.Path.{sym, ◌∙◌}
use Rattle.session_message.proofs.Choices.{text-packet, text_window}
use Rattle.session_message.proofs.fetch.Goals as goal

pub returns-then-rest-ne0 : goal.returns-then-rest-ne0
returns-then-rest-ne0 c = let a = c.args in sym (text-packet a.rest c.if-rest-ne0.true a.window.now a.text.now a.place)

pub returns : goal.returns
returns c =
    let a = c.args in
    c.text_at.ensures ∙ sym (text_window a.rest c.if-rest-ne0.false a.window.now a.text.now a.place)
