-- The two size bytes, if they are not zeros.
-- Assumes nothing.
use mathlib.Core.Path.{ap, ◌∙◌}
use Rattle.window.specs.Window.{size_at, some_size}
use Rattle.window.proofs.places.size_at.Goals as goal

pub returns : goal.returns
unfolding size_at
returns c = c.some_size.ensures ∙ ap some_size c.number_at.ensures
