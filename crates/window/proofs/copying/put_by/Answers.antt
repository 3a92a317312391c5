-- Each turn puts so many bytes more, and the last come behind the loop.
-- Assumes nothing.
use mathlib.Core.Path.{◌≡◌, ap, ◌∙◌}
use Prim.Native.Nat.{◌+◌, ◌-◌}
use native.Mathlib.Omega.{arith}
use lib.ListN.{length}
use Rattle.wire.specs.Number.{splice}
use Rattle.window.proofs.Steps.{copied_end, copied_start, copied_step}
use Rattle.window.proofs.copying.put_by.Goals as goal

pub loop-k-init : goal.loop-k-init
loop-k-init g c = copied_start _ _ _ c.requires.room

pub loop-k-preserved : goal.loop-k-preserved
loop-k-preserved g c =
    copied_step _ _ _ c.requires.room c.loop-k.invariant g.row.N (omega arith)
    (c.put_text.ensures ∙ ap (splice c.loop-k.buf (c.args.at + c.loop-k.k)) c.text_at.ensures)

pub returns : goal.returns
returns g c =
    let last = length c.args.text.now - g.row.N in
    let whole : last + g.row.N ≡ length c.args.text.now = omega (arith, c.requires.least) in
    copied_end _ _ _ c.requires.room c.loop-k.invariant g.row.N last whole (omega arith)
    (c.put_text-2.ensures ∙ ap (splice c.loop-k.buf (c.args.at + last)) c.text_at-2.ensures)
