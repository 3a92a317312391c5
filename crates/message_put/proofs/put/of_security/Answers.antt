-- The two halves of a Security are the row put.
-- Assumes nothing.
use Rattle.wire.proofs.Layouts.{parts_row}
use borrow.Author.Rules.{rules}
use Rattle.message_put.proofs.put.of_security.Goals as goal

pub returns : goal.returns
returns c =
    parts_row _ _ _ _ _ _ (search rules) (search rules) c.security_front.ensures c.security_back.ensures
