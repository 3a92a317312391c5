-- An answer in numbers. 0 says that nothing is refused; a refusal leaves what was lent.
-- Assumes nothing.
use Rattle.std.specs.Prelude.{List, [], ◌∷◌, ℕ, Result, Ok, Err}
use Rattle.refusals.specs.declared.Refusal.{Refusal}
use Rattle.packet.specs.declared.header.Header.{Header}
use Rattle.single.specs.Over.{over}

-- what is told of an answer: its numbers, over what was lent for them
abbrev pub told_by : {A : Type 0} → (A → List ℕ) → Result A Refusal → List ℕ → List ℕ
told_by numbers (Ok a) old = over (numbers a) old
told_by numbers (Err refusal) old = old

-- of one that is a number: an id's value, how many bytes were written, how many requests there are
abbrev pub number_told : Result ℕ Refusal → List ℕ → List ℕ
number_told = told_by (λ n. n ∷ [])

-- the same where as many numbers are lent as are told (the law `told_all`)
abbrev pub numbers_or : Result (List ℕ) Refusal → List ℕ → List ℕ
numbers_or (Ok ns) old = ns
numbers_or (Err refusal) old = old

-- the five fields, in the order of the layout
abbrev pub header_numbers : Header → List ℕ
header_numbers h = h.size ∷ h.seq ∷ h.flag ∷ h.messages ∷ h.milli ∷ []

abbrev pub header_told : Result Header Refusal → List ℕ → List ℕ
header_told = told_by header_numbers

-- the header that has these fields
abbrev pub packed : ℕ → ℕ → ℕ → ℕ → ℕ → Header
packed size seq flag messages milli = record { size = size; seq = seq; flag = flag; messages = messages; milli = milli }
