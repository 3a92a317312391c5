-- Document 01, "Packet header, 12 bytes", and the tests 1 to 6 of "Taking a packet".
-- Assumes nothing.
use Rattle.std.specs.Prelude.{Bool, not, ◌&&◌, List, [], ◌∷◌, ℕ, ◌/◌, ◌%◌, eqb, ltb, length, Result, Ok, Err}
use Rattle.wire.specs.Choice.{first_of}
use Rattle.wire.specs.Layout.{Field, number, Value, decode, number_in}
use Rattle.packet.specs.declared.header.Header.{Header}
use Rattle.packet.specs.declared.header.Rejection.{Rejection}
use Rattle.refusals.specs.Refusals.{answered, number_of}
use Rattle.refusals.specs.declared.Refusal.{Refusal}

-- PacketSize, SeqNum, PacketFlag, Messages, PacketMilli
abbrev pub layout : List Field
layout = number 2 ∷ number 4 ∷ number 1 ∷ number 1 ∷ number 4 ∷ []

abbrev pub header_from : List Value → Header
header_from row =
    record { size = number_in row 0; seq = number_in row 1; flag = number_in row 2; messages = number_in row 3; milli = number_in row 4 }

-- the fields that stand in a packet's first 12 bytes
abbrev pub header_in : List ℕ → Header
header_in s = header_from (decode layout 0 s)

-- bit 0 says heartbeat, the rest is reserved
abbrev pub heartbeat : ℕ → Bool
heartbeat flag = eqb (flag % 2) 1

abbrev pub reserved : ℕ → Bool
reserved flag = not (eqb (flag / 2) 0)

-- a test: whether it applies, its number, and the byte offset that it rests on
abbrev pub Test : Type 0
Test = Bool × (ℕ × ℕ)

-- the first test that applies decides: its number and offset, or 0 where none does
abbrev pub decided : List Test → ℕ × ℕ
decided tests = first_of tests (0, 0)

-- the same with names
pub record Judged : Type 0 where
  pub test : ℕ
  pub offset : ℕ

abbrev pub judged : ℕ × ℕ → Judged
judged row = record { test = row.0; offset = row.1 }

-- what an answer says of the test that decides
abbrev pub told : Result (Unit {0}) Rejection → Judged
told (Ok nothing) = judged (0, 0)
told (Err rejection) = judged (number_of rejection.refusal, rejection.offset)

-- 4 a reserved bit; 5 a heartbeat of another size, or with Messages; 6 no heartbeat and no Messages
unfoldable pub flag_tests : ℕ → ℕ → ℕ → List Test
flag_tests size flag messages =
    (reserved flag, (4, 6))
    ∷ (heartbeat flag && not (eqb size 12), (5, 0))
    ∷ (heartbeat flag && not (eqb messages 0), (5, 7))
    ∷ (not (heartbeat flag) && eqb messages 0, (6, 7))
    ∷ []

-- the same of a header
abbrev pub flags_of : Header → List Test
flags_of h = flag_tests h.size h.flag h.messages

-- 1 under 12 bytes; 2 over 1,472; 3 PacketSize is not the length lent; then 4, 5, 6
unfoldable pub header_tests : List ℕ → List Test
header_tests s =
    (ltb (length s) 12, (1, 0))
    ∷ (ltb 1472 (length s), (2, 0))
    ∷ (not (eqb (header_in s).size (length s)), (3, 0))
    ∷ flags_of (header_in s)

-- "Reading a header from lent bytes gives its fields or the first of 1 to 6 that applies"
unfoldable pub header_of : List ℕ → Result Header Refusal
header_of s = answered (decided (header_tests s)).0 (header_in s)
