-- One message against the copy that waits, by which of the two is shorter.
-- Assumes nothing.
use mathlib.Core.Path.{refl, ap, ◌∙◌}
use mathlib.Core.Bool.{not}
use Prim.Native.Nat.{ℕ, ◌%◌}
use lib.Dec.{eqb}
use lib.ListN.{length}
use Rattle.window.specs.Window.{size_at}
use Rattle.window.proofs.Sizes.{none_told, some_there, some_told}
use Rattle.window_taking.proofs.Differs.{passed_over, free, sizes, compared}
use Rattle.window_taking.proofs.differing.differs_at.Goals as goal

pub returns-then-k-next : goal.returns-then-k-next
returns-then-k-next c = passed_over c.requires.neat c.requires.whole c.requires.k_bound c.if-k-next.true

pub returns-in_default : goal.returns-in_default
returns-in_default c = free c.requires.neat c.requires.whole c.requires.k_bound c.if-k-next.false (none_told (size_at c.args.window.now (c.args.k % 256)) c.in_default.ensures) refl

pub returns-then-there-message : goal.returns-then-there-message
returns-then-there-message c =
    let n = size_at c.args.window.now (c.args.k % 256) in
    sizes c.requires.neat c.requires.whole c.requires.k_bound c.if-k-next.false (some_told n c.in-Some.ensures) (some_there n c.in-Some.ensures) c.if-there-message.true

pub returns : goal.returns
returns c =
    let n = size_at c.args.window.now (c.args.k % 256) in
    let size = length c.args.message.now in
    ap (λ (agreed : ℕ). not (eqb agreed size)) c.agree.ensures
    ∙ compared c.requires.neat c.requires.whole c.requires.k_bound c.if-k-next.false (some_told n c.in-Some.ensures) (some_there n c.in-Some.ensures) c.if-there-message.false refl
