-- Document 01, test 10: a message whose number is waiting differs, in one byte or more, from the waiting copy, and the test
-- rests on the first byte that differs. `ten` (Taking.antt) computes that; here it is said of messages and bytes.
-- Assumes nothing.
use Rattle.std.specs.Prelude.{◌≡◌, List, [], ◌∷◌, ◌++◌, ℕ, ◌+◌, ◌≤◌, ◌<◌}
use Rattle.std.proofs.Math.Option.{Option, some}
use Rattle.std.proofs.Math.ListN.{get_elem?}
use Rattle.merge.specs.State.{State}
use Rattle.packet.specs.Header as header
use Rattle.packet.specs.Header.{Test, decided, header_in}
use Rattle.packet.specs.Judging.{packet_tests, unless_heartbeat}
use Rattle.window_taking.specs.Taking.{bytes_at, frames_in, nine, take_tests}

module _ (waiting : ℕ → Option (List ℕ)) (from : ℕ) (frames : List (ℕ × ℕ)) where
  -- of messages numbered from `from` on, one whose number is waiting: which it is, where it lies, and the waiting copy
  pub record Waits : Type 0 where
    pub place : ℕ
    pub frame : ℕ × ℕ
    pub copy : List ℕ
    pub here : get_elem? frames place ≡ some frame
    pub waits : waiting (from + place) ≡ some copy

  -- one that is not equal to the waiting copy
  pub record Differs (s : List ℕ) : Type 0 where
    pub message : Waits
    pub other : bytes_at s message.frame ≡ message.copy → ⊥

  -- a byte of one that the waiting copy has not
  pub record DiffersAt (s : List ℕ) (offset : ℕ) : Type 0 where
    pub message : Waits
    pub byte : ℕ
    pub within : byte < message.frame.1
    pub at : offset ≡ message.frame.0 + byte
    pub other : get_elem? (bytes_at s message.frame) byte ≡ get_elem? message.copy byte → ⊥

  -- the first such byte
  pub record FirstAt (s : List ℕ) (offset : ℕ) : Type 0 where
    pub differs : DiffersAt s offset
    pub first : (earlier : ℕ) → earlier < offset → DiffersAt s earlier → ⊥

module _ {Table : Type 0} (x : State (List ℕ) Table) (s : List ℕ) where
  -- the same of a packet's messages
  abbrev pub Differing : Type 0
  Differing = Differs x.waiting (header_in s).seq (frames_in s) s

  abbrev pub FirstDiffering : ℕ → Type 0
  FirstDiffering offset = FirstAt x.waiting (header_in s).seq (frames_in s) s offset

  -- 1 to 9, in order
  abbrev pub through_nine : List Test
  through_nine = packet_tests s ++ unless_heartbeat (header.heartbeat (header_in s).flag) (nine x s ∷ [])

  -- a packet that passes 1 to 9 is refused by 10 exactly if a message of it differs, and by the first byte that does;
  -- where none does, it is taken. A number below next is compared with nothing
  pub record Ten : Type 0 where
    pub given : Differing → (decided (take_tests x s)).0 ≡ 10
    pub only : (decided (take_tests x s)).0 ≡ 10 → Differing
    pub rests : (decided (take_tests x s)).0 ≡ 10 → FirstDiffering (decided (take_tests x s)).1
    pub taken : (Differing → ⊥) → decided (take_tests x s) ≡ (0, 0)
    pub known : (d : Differing) → x.next ≤ (header_in s).seq + d.message.place
