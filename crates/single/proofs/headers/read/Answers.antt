-- The fields of a header, as five numbers.
-- Assumes nothing.
use Rattle.std.proofs.Common.{◌≡◌, sym, rules, Err, MatchResult, IsOkAnd}
use Rattle.single.specs.Told.{header_numbers}
use Rattle.single.proofs.Numbers.{tells}
use Rattle.single.proofs.headers.read.Goals as goal

pub returns : goal.returns
returns c =
    let is : MatchResult c.read_header.result (λ a. IsOkAnd c.map.result (λ l. l ≡ header_numbers a)) (λ e. c.map.result ≡ Err e) = search rules in
    let h = tells header_numbers _ _ c.read_header.ensures (λ a. sym c.told-told) is c.tell.ensures.refusal c.tell.ensures.told in
    record { refusal = h.0; told = h.1 }
