-- `packet::write_header` meets its contract: a refusal leaves the buffer, a count has put the row.
-- Assumes nothing.
use Rattle.std.proofs.Common.{sym}
use Rattle.packet.proofs.Writings.{counted, kept, placed}
use Rattle.packet.proofs.heading.write_header.Goals as goal

pub returns-in_err-count-clause-buffer : goal.returns-in_err-count-clause-buffer
returns-in_err-count-clause-buffer c = kept _ _ (sym (c.in_err-count.ensures {u = tt}))

pub put-requires : goal.put-requires
put-requires c = (counted _ _ _ (sym (c.in_ok-count.ensures {u = tt}))).room

pub returns-clause-buffer : goal.returns-clause-buffer
returns-clause-buffer c = placed _ _ (sym (c.in_ok-count.ensures {u = tt})) c.put.ensures
