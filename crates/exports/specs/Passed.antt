-- The numbers in which an export tells whether a packet was passed.
-- Assumes nothing.
use Rattle.std.specs.Prelude.{List, [], ◌∷◌, ℕ, Result, Ok, Err}
use Rattle.refusals.specs.Refusals.{number_of}
use Rattle.refusals.specs.declared.Refusal.{Refusal}
use Rattle.session_keeping.specs.declared.passing.Passed.{Passed}
use Rattle.session_keeping.specs.declared.passing.Passed.TheVariants.{Applies, Kept}

-- 0 where taking it may apply a message, 1 where it was kept, 2 where it was refused; and the refusal
abbrev pub pass_numbers : Result Passed Refusal → List ℕ
pass_numbers (Ok Applies) = 0 ∷ 0 ∷ []
pass_numbers (Ok Kept) = 1 ∷ 0 ∷ []
pass_numbers (Err refusal) = 2 ∷ number_of refusal ∷ []
