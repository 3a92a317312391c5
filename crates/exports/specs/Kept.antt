-- The numbers in which an export tells of a burst.
-- Assumes nothing.
use Rattle.std.specs.Prelude.{List, [], ◌∷◌, ℕ, Result, Ok, Err}
use Rattle.refusals.specs.Refusals.{number_of}
use Rattle.refusals.specs.declared.Refusal.{Refusal}

-- the refusal, 0 where there is none, how many packets there were, and how many bytes they are
abbrev pub count_numbers : Result ℕ Refusal → ℕ → List ℕ
count_numbers (Ok n) bytes = 0 ∷ n ∷ bytes ∷ []
count_numbers (Err refusal) bytes = number_of refusal ∷ 0 ∷ bytes ∷ []
