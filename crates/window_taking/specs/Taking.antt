-- Document 01, "Taking a packet": which packets a session takes, and the channel that `merge` speaks of. A message is its
-- bytes; the tables are any.
-- Assumes nothing.
use Rattle.std.specs.Prelude.{Bool, true, false, cond, List, [], ◌∷◌, ◌++◌, map, ℕ, ◌+◌, eqb, leb, length}
use Rattle.std.proofs.Math.Option.{Option, none, some}
use Rattle.wire.specs.Number.{part}
use Rattle.merge.specs.State.{Feed, Packet, State, Channel, packet, heartbeat, lowest_in}
use Rattle.packet.specs.Header as header
use Rattle.packet.specs.Header.{Test, decided, header_in}
use Rattle.packet.specs.Judging.{last_of, packet_tests, unless_heartbeat}
use Rattle.packet.specs.Walk.{frames_from}
use Rattle.window.specs.Window.{agreeing}

-- where the messages of a packet lie, and the messages
abbrev pub frames_in : List ℕ → List (ℕ × ℕ)
frames_in s = frames_from (header_in s).messages 12 s

abbrev pub bytes_at : List ℕ → ℕ × ℕ → List ℕ
bytes_at s frame = part s frame.0 frame.1

unfoldable pub packet_in : List ℕ → Packet (List ℕ)
packet_in s = cond (header.heartbeat (header_in s).flag) (heartbeat (header_in s).seq) (packet (header_in s).seq (map (bytes_at s) (frames_in s)))

-- where a message first differs from the copy that waits, if one waits and they differ
abbrev pub differ_at : Option (List ℕ) → List ℕ → Option ℕ
differ_at none bytes = none
differ_at (some copy) bytes = cond (eqb (agreeing copy bytes) (length bytes)) none (some (agreeing copy bytes))

-- where in its packet a byte of a message stands
abbrev pub offset_of : ℕ × ℕ → ℕ → ℕ
offset_of frame byte = frame.0 + byte

-- the first byte of a packet that differs from a waiting copy, the messages numbered from k on
unfoldable pub differ_from : (ℕ → Option (List ℕ)) → ℕ → List (ℕ × ℕ) → List ℕ → Option ℕ
differ_from waiting k [] s = none
differ_from waiting k (frame ∷ frames) s =
    elim (differ_at (waiting k) (bytes_at s frame)) [
      | none ↦ differ_from waiting (k + 1) frames s
      | some byte ↦ some (offset_of frame byte)
    ]

abbrev pub is_some : Option ℕ → Bool
is_some none = false
is_some (some at) = true

abbrev pub or_zero : Option ℕ → ℕ
or_zero none = 0
or_zero (some at) = at

module _ {Table : Type 0} where
  -- the lowest number not carried; from next up to it all numbers wait
  abbrev pub lowest_of : State (List ℕ) Table → ℕ
  lowest_of x = lowest_in 256 x

  -- 9 the last number is at or above next + 256, however far the lowest number not carried is
  abbrev pub nine : State (List ℕ) Table → List ℕ → Test
  nine x s = (leb (x.next + 256) (last_of (header_in s).seq (header_in s).messages), (9, 2))

  -- 10 a message whose number is waiting differs from the waiting copy
  abbrev pub ten : State (List ℕ) Table → List ℕ → Test
  ten x s =
      let at = differ_from x.waiting (header_in s).seq (frames_in s) s in
      (is_some at, (10, or_zero at))

  abbrev pub wait_tests : State (List ℕ) Table → List ℕ → List Test
  wait_tests x s = nine x s ∷ ten x s ∷ []

  -- 1 to 10, in order
  unfoldable pub take_tests : State (List ℕ) Table → List ℕ → List Test
  take_tests x s = packet_tests s ++ unless_heartbeat (header.heartbeat (header_in s).flag) (wait_tests x s)

  -- a packet is taken where no test applies
  unfoldable pub judge : State (List ℕ) Table → List ℕ → Option (Packet (List ℕ))
  judge x s = cond (eqb (decided (take_tests x s)).0 0) (some (packet_in s)) none

  -- the overnight channel: a window of 256 numbers
  abbrev pub channel : Feed (List ℕ) Table → Channel (List ℕ) (List ℕ) Table
  channel feed = record { feed = feed; window = 256; judge = judge }
