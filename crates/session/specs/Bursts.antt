-- Document 01, "Taking a packet": the answer to one packet, the answers to several, and how many messages were applied.
-- Assumes nothing.
use Rattle.std.specs.Prelude.{Bool, true, false, cond, List, [], ◌∷◌, ◌++◌, ℕ, ◌-◌, ◌*◌, ◌≤◌, ltb, length, Result, Ok, Err}
use Rattle.refusals.specs.Refusals.{answered}
use Rattle.refusals.specs.declared.Refusal.{Refusal}
use Rattle.refusals.specs.declared.Refusal.TheVariants.{NoRoom}
use Rattle.wire.specs.Number.{splice}
use Rattle.merge.specs.State.{apply_some, take_all, take_one}
use Rattle.packet.specs.Header.{decided}
use Rattle.window_taking.specs.Taking.{take_tests}
use Rattle.window_taking.specs.Turns.{end_from, packets_in}
use Rattle.session.specs.Meaning.{Meaning, overnight}

-- ---- one packet

-- the test that refuses it, 0 where none does
abbrev pub refusal_of : Meaning → List ℕ → ℕ
refusal_of x s = (decided (take_tests x s)).0

-- how many were applied: new next less old
abbrev pub applied_of : Meaning → List ℕ → ℕ
applied_of x s = (take_one overnight x s).next - x.next

abbrev pub answer_of : Meaning → List ℕ → Result ℕ Refusal
answer_of x s = answered (refusal_of x s) (applied_of x s)

-- ---- applying

-- how many were applied: new next less old
abbrev pub applied_by : Meaning → ℕ → ℕ
applied_by x count = (apply_some overnight count x).next - x.next

-- ---- a burst

-- the packets that a burst hands in: as many as it says, if there are so many; none where its list of answers is too short
abbrev pub handed_in : List ℕ → ℕ → ℕ → List (List ℕ)
handed_in s most room = cond (ltb room (4 * most)) [] (packets_in most s)

-- four numbers answer a packet: how many were applied, the refusal, 0 where there is none, then next and end
abbrev pub row_with : ℕ → ℕ → Meaning → List ℕ
row_with before refusal after = (after.next - before) ∷ refusal ∷ after.next ∷ after.end ∷ []

abbrev pub row_of : Meaning → List ℕ → List ℕ
row_of x s = row_with x.next (refusal_of x s) (take_one overnight x s)

unfoldable pub rows_of : Meaning → List (List ℕ) → List ℕ
rows_of x [] = []
rows_of x (s ∷ ss) = row_of x s ++ rows_of (take_one overnight x s) ss

-- 11 exactly if the list is too short for so many answers, nothing changed
unfoldable pub burst_of : Meaning → List ℕ → ℕ → ℕ → Meaning
burst_of x s most n = cond (ltb n (4 * most)) x (take_all overnight x (packets_in most s))

unfoldable pub count_of : List ℕ → ℕ → ℕ → Result ℕ Refusal
count_of s most n = cond (ltb n (4 * most)) (Err NoRoom) (Ok (length (packets_in most s)))

-- how many bytes they are, with their lengths
unfoldable pub bytes_of : List ℕ → ℕ → ℕ → ℕ
bytes_of s most n = cond (ltb n (4 * most)) 0 (end_from false most 0 s)

unfoldable pub answers_after : Meaning → List ℕ → ℕ → List ℕ → List ℕ
answers_after x s most answers = cond (ltb (length answers) (4 * most)) answers (splice answers 0 (rows_of x (packets_in most s)))

-- the count, where the answers fit
abbrev pub count_if : Bool → ℕ → Result ℕ Refusal
count_if true n = Ok n
count_if false n = Err NoRoom

-- what the engine asks for: room for so many answers
pub record Runs (most n : ℕ) : Type 0 where
  pub room : 4 * most ≤ n
  pub big : n ≤ 18446744073709551615
