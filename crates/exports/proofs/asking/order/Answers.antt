-- The order where the index has its id.
-- Assumes nothing.
use mathlib.Core.Path.{ap, sym, ◌∙◌}
use Prim.Native.Nat.{◌<◌}
use native.Mathlib.Omega.{arith}
use Rattle.std.specs.Prelude.{Err}
use Rattle.std.proofs.lemmas.Result.{err_from_is_err_and}
use Rattle.session.proofs.Answers.{bad_asked, known_asked, none_asked, some_book, order_few}
use Rattle.exports.proofs.asking.order.Goals as goal

small : (c : goal.In-Some) → c.in-Some.place < 256
small c = order_few c.requires.1 _ c.value.ensures c.in_ok-key.was c.found.ensures c.in-Some.is

pub returns-in_err-key : goal.returns-in_err-key
returns-in_err-key c =
    let p = err_from_is_err_and c.from_residual.result c.from_residual.ensures.1 in
    p.1 ∙ bad_asked c.requires.1 _ c.value.ensures (c.in_err-key.was ∙ ap Err (sym p.2))

pub found-requires : goal.found-requires
found-requires c = some_book c.requires.1

pub returns-in_default : goal.returns-in_default
returns-in_default c = none_asked c.requires.1 _ c.value.ensures c.in_ok-key.was c.found.ensures c.in_default.is

pub offset_bounds-session-place : goal.offset_bounds-session-place
offset_bounds-session-place c = omega (arith, small c)

pub bounds-session-place : goal.bounds-session-place
bounds-session-place c = order_few c.requires.1 _ c.value.ensures c.in_ok-key.was c.found.ensures c.in-Some.is

pub returns : goal.returns
returns c = known_asked c.requires.1 _ c.value.ensures c.in_ok-key.was c.found.ensures c.in-Some.is
