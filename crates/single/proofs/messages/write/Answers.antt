-- A message written from its numbers, by whether they give one.
-- Assumes nothing.
use Rattle.std.proofs.Common.{◌≡◌, ℕ, [], ◌∷◌, ap, sym, ◌∙◌, rules, Result, Err, MatchResult, IsOkAnd}
use Rattle.refusals.specs.Refusals.{refusal_in}
use Rattle.refusals.specs.declared.Refusal.{Refusal}
use Rattle.single.specs.Told.{number_told}
use Rattle.single.proofs.Giving.{none_given, one_given}
use Rattle.single.proofs.Numbers.{tells}
use Rattle.single.proofs.messages.write.Goals as goal

pub returns-in-Ok : goal.returns-in-Ok
returns-in-Ok c =
    let is : MatchResult c.write-written.result (λ a. IsOkAnd c.map.result (λ l. l ≡ a ∷ [])) (λ e. c.map.result ≡ Err e) = search rules in
    let g = one_given c.args.numbers.now c.args.buf.now c.args.at (c.in-Ok.ensures {u = tt}) in
    let h = tells (λ n. n ∷ []) _ _ (c.write-written.ensures.answer ∙ g.0) (λ a. sym c.told-told) is c.tell.ensures.refusal c.tell.ensures.told in
    record { refusal = h.0; buffer = c.write-written.ensures.buffer ∙ g.1; told = h.1 }

pub returns-in-Err : goal.returns-in-Err
returns-in-Err c =
    let g = none_given c.args.numbers.now c.args.buf.now c.args.at (c.in-Err.ensures {u = tt}) in
    record {
      refusal = c.number.ensures ∙ ap (λ (r : Result ℕ Refusal). refusal_in r) g.0;
      buffer = g.1;
      told = ap (λ (r : Result ℕ Refusal). number_told r c.args.told.now) g.0;
    }
