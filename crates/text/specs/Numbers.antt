-- A number in decimal: one digit or more, leading zeros allowed, and at most a limit.
-- Assumes nothing.
use Rattle.std.specs.Prelude.{cond, Option, None, Some, IfSome, unwrap_or, ◌≡◌, List, [], ◌∷◌, ℕ, ◌+◌, ◌-◌, ◌*◌, ◌≤◌, ◌<◌, leb, ltb}

-- the value of a digit; 10 of any other character
unfoldable pub digit_of : ℕ → ℕ
digit_of c = cond (ltb c 48) 10 (cond (ltb 57 c) 10 (c - 48))

-- the number that digits give behind one that is n so far
unfoldable pub number_from : ℕ → ℕ → List ℕ → Option ℕ
number_from limit n [] = Some n
number_from limit n (c ∷ cs) =
    cond (ltb (digit_of c) 10)
    (cond (leb (n * 10 + digit_of c) limit) (number_from limit (n * 10 + digit_of c) cs) None)
    None

unfoldable pub number_of : ℕ → List ℕ → Option ℕ
number_of limit [] = None
number_of limit (c ∷ cs) = number_from limit 0 (c ∷ cs)

pub record Digit (c : ℕ) (r : Option ℕ) : Type 0 where
  pub is : unwrap_or r 10 ≡ digit_of c
  pub most : IfSome r (λ digit. digit < 10)

-- what a word is read as
pub record Number (limit : ℕ) (word : List ℕ) (r : Option ℕ) : Type 0 where
  pub is : r ≡ number_of limit word
  pub within : IfSome r (λ n. n ≤ limit)
