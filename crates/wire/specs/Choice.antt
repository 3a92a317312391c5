-- Choosing: by the first test that applies, and by a number from a table.
-- Assumes nothing.
use Rattle.std.specs.Prelude.{Bool, cond, List, [], ◌∷◌, ℕ, eqb}

module _ {A : Type 0} where
  -- "First test that applies decides": the answer beside it, or the last one where none applies
  abbrev pub first_of : List (Bool × A) → A → A
  first_of [] otherwise = otherwise
  first_of (row ∷ rows) otherwise = cond row.0 row.1 (first_of rows otherwise)

  -- what a table has beside a number, or the last one where it is not listed
  abbrev pub listed_at : ℕ → List (ℕ × A) → A → A
  listed_at n [] otherwise = otherwise
  listed_at n (row ∷ rows) otherwise = cond (eqb n row.0) row.1 (listed_at n rows otherwise)
