-- Where the text has no byte, nothing is put.
-- Assumes nothing.
use Rattle.window.proofs.Steps.{put_none}
use Rattle.window.proofs.copying.put.Goals as goal

pub returns-in-0 : goal.returns-in-0
returns-in-0 c = put_none c.args.buf.now c.args.at c.args.text.now c.in-0.is
