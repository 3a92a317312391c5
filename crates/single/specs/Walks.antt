-- Document 01, a packet walked without a session, in numbers.
-- Assumes nothing.
use Rattle.std.specs.Prelude.{◌≡◌, cond, List, [], ◌∷◌, ◌⊎◌, ℕ, ◌*◌, eqb, ltb, length, None}
use Rattle.packet.specs.Walk.{walk_from}
use Rattle.packet_reader.specs.Reading.{judged_by, messages_of, refusal_of}
use Rattle.single.specs.Over.{over}

-- where each message starts and how many bytes it has, one behind the other
abbrev pub flat : List (ℕ × ℕ) → List ℕ
flat [] = []
flat (m ∷ ms) = m.0 ∷ m.1 ∷ flat ms

-- 1 to 7, then 11 where the list is too short for two numbers a message
unfoldable pub walk_refusal : List ℕ → ℕ → ℕ
walk_refusal s n = cond (eqb (refusal_of s) 0) (cond (ltb n (2 * length (messages_of s))) 11 0) (refusal_of s)

-- the list after a walk: a refusal leaves it
unfoldable pub places_after : List ℕ → List ℕ → List ℕ
places_after s places = cond (eqb (walk_refusal s (length places)) 0) (over (flat (messages_of s)) places) places

-- where the refusal rests, 0 where none of 1 to 7 applies, and how many messages there are, of a refused packet none
abbrev pub walk_numbers : List ℕ → List ℕ
walk_numbers s = (judged_by s).offset ∷ length (messages_of s) ∷ []

-- so many messages lie in a packet from a place on, up to its end; of none nothing is asked
abbrev pub Walkable : ℕ → ℕ → List ℕ → Type 0
Walkable messages at s = (messages ≡ 0) ⊎ (walk_from messages at s ≡ None)
