-- `text::input::more` meets its contract: the read leaves what is before its part.
-- Assumes nothing.
use Prim.Native.Nat.{ℕ, ◌-◌, ◌≤◌}
use lib.ListN.{length}
use Rattle.std.proofs.lemmas.Result.{IfOk-weaker}
use Rattle.text.proofs.Moving.{more_read}
use borrow.Author.Rules.{rules}
use Rattle.text.proofs.input.more.Goals as goal

pub returns-clause-ok : goal.returns-clause-ok
returns-clause-ok g c =
    let a = c.args in
    let s = c.shift in
    let more = λ (got : ℕ) (most : got ≤ length c.read.new.buf). more_read a.buf.now s.new.buf a.from a.to (length s.new.buf - (a.to - a.from)) c.read.new.buf got (search rules) s.ensures most in
    IfOk-weaker c.read.result _ _ more c.read.ensures.ok
