-- Document 01, "Taking a packet": one that does not carry next, while nothing waits there, applies nothing. It is refused, or its messages
-- wait, or only its end counts; the tables stay.
-- Assumes nothing.
use Rattle.std.specs.Prelude.{Bool, true, cond, not, ◌&&◌, List, [], ◌∷◌, ℕ, ◌+◌, leb, ltb, length, Result, Ok, Err}
use Rattle.std.proofs.Math.Option.{Option}
use Rattle.merge.specs.State.{Call, State, calls_of, is_there, take_one}
use Rattle.refusals.specs.declared.Refusal.{Refusal}
use Rattle.packet.specs.Header.{header_in, heartbeat}
use Rattle.session.specs.Meaning.{Meaning, overnight}
use Rattle.session_keeping.specs.Keeping.{kept_of}
use Rattle.session_keeping.specs.declared.passing.Passed.{Passed}
use Rattle.session_keeping.specs.declared.passing.Passed.TheVariants.{Applies, Kept}

-- by its header: it is no heartbeat, and next is one of its numbers
unfoldable pub carries_at : ℕ → List ℕ → Bool
carries_at next s =
    let h = header_in s in
    leb 12 (length s) && (not (heartbeat h.flag) && (leb h.seq next && ltb next (h.seq + h.messages)))

-- so taking it may apply a message; or one that waits at next
abbrev pub applies_at : ℕ → (ℕ → Option (List ℕ)) → List ℕ → Bool
applies_at next waiting s = cond (carries_at next s) true (is_there (waiting next))

-- the answer, by that to keeping it
abbrev pub passed_by : Result ℕ Refusal → Result Passed Refusal
passed_by (Ok fresh) = Ok Kept
passed_by (Err refusal) = Err refusal

unfoldable pub passed_of : {T : Type 0} → State (List ℕ) T → List ℕ → Result Passed Refusal
passed_of x s = cond (applies_at x.next x.waiting s) (Ok Applies) (passed_by (kept_of x s))

-- what is held behind it: all as it was, or what taking the packet gives
unfoldable pub pass_on : Meaning → List ℕ → Meaning
pass_on x s = cond (applies_at x.next x.waiting s) x (take_one overnight x s)

-- the calls that such a call is: none where taking the packet may apply a message
abbrev pub passed_in : Meaning → List ℕ → List (Call (List ℕ))
passed_in x s = cond (applies_at x.next x.waiting s) [] (calls_of overnight x (s ∷ []))
