-- By the header, then by the size of what waits at next.
-- Assumes nothing.
use mathlib.Core.Path.{ap, ◌∙◌, sym}
use mathlib.Core.Bool.{Bool, true, cond}
use Prim.Native.Nat.{◌%◌}
use native.Mathlib.Nat.{mod-lt}
use native.Mathlib.Omega.{arith}
use Rattle.merge.specs.State.{is_there}
use Rattle.window.specs.Window.{size_at}
use Rattle.window.proofs.Sizes.{by_size}
use Rattle.window_taking.specs.Keeping.{waiting_of}
use Rattle.session_keeping.proofs.Passes.{there_at}
use Rattle.session_keeping.proofs.passing.applies.Goals as goal

pub returns-then-carries : goal.returns-then-carries
returns-then-carries c =
    let next = c.args.next in
    let there = is_there (waiting_of c.args.window.now next next) in
    sym (ap (λ (b : Bool). cond b true there) (sym c.carries.ensures ∙ c.if-carries.true))

pub returns : goal.returns
returns c =
    let next = c.args.next in
    let window = c.args.window.now in
    by_size (size_at window (next % 256)) c.size_at.ensures c.is_some.ensures
    ∙ there_at window next
    ∙ sym (ap (λ (b : Bool). cond b true (is_there (waiting_of window next next))) (sym c.carries.ensures ∙ c.if-carries.false))

pub size_at-requires : goal.size_at-requires
size_at-requires c = mod-lt c.args.next {m = 256} (omega arith)
