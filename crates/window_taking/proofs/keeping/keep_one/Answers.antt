-- One message kept, by whether its number is below next and whether a copy waits.
-- Assumes nothing.
use Prim.Native.Nat.{◌%◌}
use Rattle.window.specs.Window.{size_at}
use Rattle.window.proofs.Sizes.{free_by, used_by}
use Rattle.window_taking.proofs.Windows.{count_again, count_new, count_old, passed_over, put, stays}
use Rattle.window_taking.proofs.keeping.keep_one.Goals as goal

pub returns-then-k-next : goal.returns-then-k-next
returns-then-k-next c =
    let neat = c.requires.neat in
    let whole = c.requires.whole in
    let near = c.requires.k_bound in
    record { fresh = count_old neat whole near c.if-k-next.true; kept = passed_over neat whole near c.if-k-next.true }

pub returns-then-is_some : goal.returns-then-is_some
returns-then-is_some c =
    let neat = c.requires.neat in
    let whole = c.requires.whole in
    let near = c.requires.k_bound in
    let from = c.if-k-next.false in
    let used = used_by (size_at c.args.window.now (c.args.k % 256)) c.size_at.ensures c.is_some.ensures c.if-is_some.true in
    record { fresh = count_again neat whole near from used; kept = stays neat whole near from used }

pub returns : goal.returns
returns c =
    let neat = c.requires.neat in
    let whole = c.requires.whole in
    let near = c.requires.k_bound in
    let from = c.if-k-next.false in
    let free = free_by (size_at c.args.window.now (c.args.k % 256)) c.size_at.ensures c.is_some.ensures c.if-is_some.false in
    record { fresh = count_new neat whole near from free; kept = put neat whole near from free c.keep.ensures }
