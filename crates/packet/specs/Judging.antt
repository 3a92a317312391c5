-- Document 01, "Taking a packet": tests 1 to 8, which ask nothing of a session.
-- Assumes nothing.
use Rattle.std.specs.Prelude.{Bool, true, false, List, [], ◌∷◌, ◌++◌, ℕ, ◌+◌, ◌-◌, ltb, Option, Some, None}
use Rattle.packet.specs.Header.{Judged, Test, decided, heartbeat, header_in, header_tests, judged}
use Rattle.packet.specs.Walk.{walk_from}

-- the first message has the number SeqNum, later ones the next numbers
abbrev pub last_of : ℕ → ℕ → ℕ
last_of seq messages = seq + messages - 1

abbrev pub is_broken : Option ℕ → Bool
is_broken None = false
is_broken (Some at) = true

-- the first byte of the message at fault, or of the bytes left over
abbrev pub fault_of : Option ℕ → ℕ
fault_of None = 0
fault_of (Some at) = at

-- 7 a message at fault, or bytes after the last; 8 a last number above 4,294,967,295
unfoldable pub body_tests : Option ℕ → ℕ → ℕ → List Test
body_tests walked seq messages = (is_broken walked, (7, fault_of walked)) ∷ (ltb 4294967295 (last_of seq messages), (8, 2)) ∷ []

-- a heartbeat meets none of 7 to 10
abbrev pub unless_heartbeat : Bool → List Test → List Test
unless_heartbeat true tests = []
unless_heartbeat false tests = tests

-- 1 to 8, in order
unfoldable pub packet_tests : List ℕ → List Test
packet_tests s =
    header_tests s
    ++ unless_heartbeat (heartbeat (header_in s).flag) (body_tests (walk_from (header_in s).messages 12 s) (header_in s).seq (header_in s).messages)

-- the test that decides, and the byte that it rests on
unfoldable pub judge_of : List ℕ → Judged
judge_of s = judged (decided (packet_tests s))
