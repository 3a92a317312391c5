-- The order, as eight numbers.
-- Assumes nothing.
use Rattle.std.proofs.Common.{◌≡◌, sym, rules, Err, MatchResult, IsOkAnd}
use Rattle.single.proofs.Numbers.{tells}
use Rattle.exports.specs.Told.{order_numbers}
use Rattle.exports.proofs.jangsebit_order.Goals as goal

pub returns : goal.returns
returns c =
    let is : MatchResult c.order-answer.result (λ a. IsOkAnd c.map.result (λ l. l ≡ order_numbers a)) (λ e. c.map.result ≡ Err e) = search rules in
    let h = tells order_numbers _ _ c.order-answer.ensures (λ a. sym c.told-told) is c.tell.ensures.refusal c.tell.ensures.told in
    record { refusal = h.0; told = h.1 }
