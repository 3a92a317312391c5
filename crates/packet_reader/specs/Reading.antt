-- Document 01, a packet walked without a session: the tests 1 to 7, and its messages in order.
-- Assumes nothing.
use Rattle.std.specs.Prelude.{cond, List, [], ◌∷◌, ◌++◌, ℕ, eqb, get_or, Option}
use Rattle.packet.specs.Header.{Judged, Test, decided, heartbeat, header_in, header_tests, judged}
use Rattle.packet.specs.Judging.{fault_of, judge_of, is_broken, unless_heartbeat}
use Rattle.packet.specs.Walk.{frames_from, walk_from}

-- 7 a message at fault, or bytes after the last
abbrev pub walk_tests : Option ℕ → List Test
walk_tests fault = (is_broken fault, (7, fault_of fault)) ∷ []

-- 1 to 7, in order
unfoldable pub read_tests : List ℕ → List Test
read_tests s = header_tests s ++ unless_heartbeat (heartbeat (header_in s).flag) (walk_tests (walk_from (header_in s).messages 12 s))

-- the first of 1 to 7 that applies, 0 where none does
unfoldable pub refusal_of : List ℕ → ℕ
refusal_of s = (decided (read_tests s)).0

-- its number and the offset that it rests on (the law `judged-number`): 1 to 8, with no test where it is 8
unfoldable pub judged_by : List ℕ → Judged
judged_by s = cond (eqb (judge_of s).test 8) (judged (0, 0)) (judge_of s)

-- where each message starts and how many bytes it has: a refused packet has none, and a heartbeat, whose Messages is 0, has none
unfoldable pub messages_of : List ℕ → List (ℕ × ℕ)
messages_of s = cond (eqb (refusal_of s) 0) (frames_from (header_in s).messages 12 s) []

-- no message: no byte
abbrev pub no_message : ℕ × ℕ
no_message = (0, 0)

-- the message with so many before it
unfoldable pub message_of : List ℕ → ℕ → ℕ × ℕ
message_of s i = get_or (messages_of s) i no_message
