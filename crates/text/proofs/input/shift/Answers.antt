-- What is held lies at the front: it lay there, or was moved.
-- Assumes nothing.
use Rattle.text.proofs.Moving.{moved}
use Rattle.text.proofs.input.shift.Goals as goal

pub returns : goal.returns
returns c = moved c.args.buf.now c.args.from c.args.to c.requires.0 c.requires.1 c.copy_within.ensures.after
