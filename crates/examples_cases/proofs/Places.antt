-- The bar or the end, by std's `position`.
-- Assumes nothing.
use Rattle.std.proofs.Common.{◌≡◌, ◌≤◌, ◌==◌, ℕ, List, [], ◌∷◌, length, arith, Option, unwrap_or}
use Rattle.std.specs.List.{position}
use Rattle.examples_cases.specs.Lines.{place_of}

most : (byte : ℕ) (s : List ℕ) → place_of byte s ≤ length s
most byte [] = omega arith
most byte (b ∷ bs) =
    let ih : place_of byte bs ≤ length bs = most byte bs in
    grind (arith, ih)

pub bar_or_end : (s : List ℕ) (r : Option ℕ) → r ≡ position (λ b. b == 124) s → unwrap_or r (length s) ≡ place_of 124 s
bar_or_end s r e =
    let within : place_of 124 s ≤ length s = most 124 s in
    grind (arith, e, within)
