-- The four lie at the place.
-- Assumes nothing.
use mathlib.Core.Path.{refl}
use Rattle.window.proofs.Agreeing.{put_over}
use Rattle.window_burst.proofs.put_answer.Goals as goal

pub returns : goal.returns
returns c = put_over c.args.answers.now c.args.place _ _ refl c.copy_from_slice.ensures.after
