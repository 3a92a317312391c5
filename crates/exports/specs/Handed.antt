-- Lent bytes as packets, and what comes of handing them in.
-- Assumes nothing.
use Rattle.std.specs.Prelude.{Bool, false, cond, List, [], ◌∷◌, ℕ, ◌*◌, ◌/◌, eqb, leb, ltb, length, Option, Some, None}
use Rattle.wire.specs.Number.{splice}
use Rattle.merge.specs.State.{take_all}
use Rattle.window_taking.specs.Turns.{end_from, packets_in}
use Rattle.session.specs.Meaning.{Meaning, overnight}
use Rattle.session.specs.Bursts.{rows_of}
use Rattle.single.specs.Over.{over}

-- how many the host says: one, where the bytes are one packet
abbrev pub most_by : ℕ → ℕ → ℕ
most_by single count = cond (eqb single 0) count 1

-- the first packets, each behind its length, or all that there are; or, where the first number is not 0, the bytes as one packet
abbrev pub packets_by : ℕ → ℕ → List ℕ → List (List ℕ)
packets_by single count s = cond (eqb single 0) (packets_in count s) (s ∷ [])

-- how many bytes they are, with their lengths
abbrev pub bytes_by : ℕ → ℕ → List ℕ → ℕ
bytes_by single count s = cond (eqb single 0) (end_from false count 0 s) (length s)

-- the list is too short for so many answers, four numbers each
abbrev pub short_by : ℕ → ℕ → ℕ → Bool
short_by single count n = ltb n (4 * most_by single count)

-- ---- then nothing is taken, and all is as it was

unfoldable pub taken_by : Meaning → ℕ → ℕ → List ℕ → ℕ → Meaning
taken_by x single count s n = cond (short_by single count n) x (take_all overnight x (packets_by single count s))

unfoldable pub answers_by : Meaning → ℕ → ℕ → List ℕ → List ℕ → List ℕ
answers_by x single count s answers = cond (short_by single count (length answers)) answers (splice answers 0 (rows_of x (packets_by single count s)))

-- the refusal, 11 or 0, how many packets were taken, and how many bytes they are
unfoldable pub taken_told : ℕ → ℕ → List ℕ → ℕ → List ℕ → List ℕ
taken_told single count s n old = cond (short_by single count n) (over (11 ∷ 0 ∷ 0 ∷ []) old) (over (0 ∷ length (packets_by single count s) ∷ bytes_by single count s ∷ []) old)

-- ---- how the call is carried out

-- all that the host says are due where their answers fit; of bytes that are one packet it is one
abbrev pub due_of : Bool → ℕ → ℕ → Option ℕ
due_of one count n = cond (leb (cond one 1 count) (n / 4)) (Some (cond one 1 count)) None
