-- A fresh session, with what is lent filled: the one for the empty meaning.
-- Assumes nothing.
use mathlib.Core.Path.{ap, ◌∙◌}
use mathlib.Core.List.{List}
use Prim.Native.Nat.{ℕ}
use native.Mathlib.Omega.{arith}
use lib.ListN.{replicate}
use Rattle.session.proofs.Calls.{opened_with, rule_of}
use Rattle.session.proofs.States.{ruled_open}
use Rattle.session.proofs.state.Session.open.Goals as goal

abbrev zeros : ℕ → List ℕ
zeros n = replicate n 0

pub returns : goal.returns
returns c =
    let fresh =
    opened_with c.args.rule c.args.number c.rule_number.ensures c.no_order-order.ensures
    (c.fill-2.ensures.after (λ y e. e) ∙ ap zeros c.told-room)
    (c.fill.ensures.after (λ y e. e) ∙ ap zeros c.told-window) in
    record { opened = fresh; rule = rule_of fresh (ruled_open c.args.rule c.args.number (omega arith)) }
