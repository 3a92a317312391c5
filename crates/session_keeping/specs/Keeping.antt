-- Document 02, T-06: a packet is judged and its messages wait; the answer to one, and the answers to several.
-- Assumes nothing.
use Rattle.std.specs.Prelude.{cond, List, ℕ, ◌*◌, ltb, length, Result}
use Rattle.refusals.specs.Refusals.{answered}
use Rattle.refusals.specs.declared.Refusal.{Refusal}
use Rattle.wire.specs.Number.{splice}
use Rattle.merge.specs.State.{State, call_all, keeps_of}
use Rattle.packet.specs.Header.{decided}
use Rattle.window_taking.specs.Keeping.{fresh_by}
use Rattle.window_taking.specs.Taking.{take_tests}
use Rattle.window_taking.specs.Turns.{packets_in}
use Rattle.window_keeping.specs.Keeping.{kept_rows}
use Rattle.session.specs.Meaning.{Meaning, overnight}

-- ---- one packet

-- how many of its numbers now wait that did not before, or the refusal
abbrev pub kept_of : {T : Type 0} → State (List ℕ) T → List ℕ → Result ℕ Refusal
kept_of x s = answered (decided (take_tests x s)).0 (fresh_by x s)

-- ---- a burst: nothing changes where its list of answers is too short

unfoldable pub burst_kept : Meaning → List ℕ → ℕ → ℕ → Meaning
burst_kept x s most n = cond (ltb n (4 * most)) x (call_all overnight x (keeps_of (packets_in most s)))

unfoldable pub answers_kept : {T : Type 0} → State (List ℕ) T → List ℕ → ℕ → List ℕ → List ℕ
answers_kept x s most answers = cond (ltb (length answers) (4 * most)) answers (splice answers 0 (kept_rows x (packets_in most s)))
