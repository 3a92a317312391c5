-- How many requests, as one number.
-- Assumes nothing.
use Rattle.std.proofs.Common.{◌≡◌, [], ◌∷◌, sym, rules, Err, MatchResult, IsOkAnd}
use Rattle.single.proofs.Numbers.{tells}
use Rattle.exports.proofs.asking.jangsebit_requests.Goals as goal

pub returns : goal.returns
returns c =
    let is : MatchResult c.requests-asked.result (λ a. IsOkAnd c.map.result (λ l. l ≡ a ∷ [])) (λ e. c.map.result ≡ Err e) = search rules in
    let h = tells (λ n. n ∷ []) _ _ c.requests-asked.ensures.answer (λ a. sym c.told-told) is c.tell.ensures.refusal c.tell.ensures.told in
    record { refusal = h.0; told = h.1; buffer = c.requests-asked.ensures.buffer }
