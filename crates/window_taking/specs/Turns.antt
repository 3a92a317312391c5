-- Parts of a burst: where a packet lies, and the turn that it is given.
-- Assumes nothing.
use Rattle.std.specs.Prelude.{Bool, true, false, cond, List, [], ◌∷◌, ℕ, zero, suc, ◌+◌, ◌-◌, ◌≤◌, min, eqb, ltb, length, Result, Ok, Err, Option, Some, None}
use Rattle.wire.specs.Number.{num, part}
use Rattle.refusals.specs.Refusals.{refusal_or_none}
use Rattle.refusals.specs.declared.Refusal.{Refusal}
use Rattle.merge.specs.State as merge
use Rattle.window_taking.specs.Keeping.{admitted_of}
use Rattle.window_taking.specs.declared.admitting.Admitted.{Admitted}
use Rattle.window_taking.specs.declared.burst.Frame.{Frame}
use Rattle.window_taking.specs.declared.burst.Turn.{Turn}

-- the length that stands before a packet
abbrev pub length_at : List ℕ → ℕ → ℕ
length_at s at = num (part s at 2)

-- the packet at a place: the rest of the bytes, or what its length says
abbrev pub frame_at : Bool → List ℕ → ℕ → Frame
frame_at true s at = record { start = at; size = length s - at }
frame_at false s at = record { start = at + 2; size = length_at s at }

abbrev pub packet_at : Bool → List ℕ → ℕ → List ℕ
packet_at single s at = part s (frame_at single s at).start (frame_at single s at).size

abbrev pub behind : Bool → List ℕ → ℕ → ℕ
behind single s at = (frame_at single s at).start + (frame_at single s at).size

-- the bytes end before the packet at a place does
abbrev pub cut_at : Bool → List ℕ → ℕ → Bool
cut_at single s at = ltb (length s) (behind single s at)

-- the whole packets from a place on, one behind the other, at most n
unfoldable pub packets_from : Bool → ℕ → ℕ → List ℕ → List (List ℕ)
packets_from single zero at s = []
packets_from single (suc n) at s = cond (cut_at single s at) [] (packet_at single s at ∷ packets_from single n (behind single s at) s)

-- where they end
unfoldable pub end_from : Bool → ℕ → ℕ → List ℕ → ℕ
end_from single zero at s = at
end_from single (suc n) at s = cond (cut_at single s at) at (end_from single n (behind single s at) s)

-- the first n whole packets of a burst, each behind its length, or all that there are
abbrev pub packets_in : ℕ → List ℕ → List (List ℕ)
packets_in n s = packets_from false n 0 s

-- a packet lies in the bytes
pub record Lies (single : Bool) (s : List ℕ) (at : ℕ) : Type 0 where
  pub start : (frame_at single s at).start ≤ length s
  pub within : behind single s at ≤ length s

-- by what judging a packet answers: its refusal, if there is one
abbrev pub refused_by : Result Admitted Refusal → Option Refusal
refused_by (Ok admitted) = None
refused_by (Err refusal) = Some refusal

-- end behind it: a packet that is refused leaves end as it was
abbrev pub end_by : ℕ → Result Admitted Refusal → ℕ
end_by end (Ok admitted) = admitted.end
end_by end (Err refusal) = end

-- how many of its messages are applied straight from it
abbrev pub direct_by : Result Admitted Refusal → ℕ
direct_by (Ok admitted) = admitted.direct
direct_by (Err refusal) = 0

-- where those begin; where there are none, how many of the messages that wait are due: none behind a packet that is refused, and
-- else as many as can wait
abbrev pub from_by : Result Admitted Refusal → ℕ → ℕ
from_by (Ok admitted) begin = cond (eqb admitted.direct 0) 256 begin
from_by (Err refusal) begin = 0

module _ {Table : Type 0} where
  -- the turn of the packet at a place
  abbrev pub turn_of : merge.State (List ℕ) Table → Bool → List ℕ → ℕ → ℕ → ℕ → Turn
  turn_of x single s at left place =
      record {
        begun = true;
        left = left;
        at = behind single s at;
        place = place;
        before = x.next;
        refusal = refused_by (admitted_of true x (packet_at single s at));
        end = end_by x.end (admitted_of true x (packet_at single s at));
        direct = direct_by (admitted_of true x (packet_at single s at));
        from = from_by (admitted_of true x (packet_at single s at)) ((frame_at single s at).start + min (frame_at single s at).size 12);
      }

-- before the first packet
abbrev pub at_start : ℕ → ℕ → ℕ → Turn
at_start next end count =
    record {
      begun = false;
      left = count;
      at = 0;
      place = 0;
      before = next;
      refusal = None;
      end = end;
      direct = 0;
      from = 0;
    }

-- its answer, with next as it is then; before the first packet there is none
abbrev pub answer_if : Bool → List ℕ → List ℕ
answer_if true row = row
answer_if false row = []

abbrev pub closing : Turn → ℕ → List ℕ
closing turn next = answer_if turn.begun ((next - turn.before) ∷ refusal_or_none turn.refusal ∷ next ∷ turn.end ∷ [])

-- where the next answer goes
abbrev pub place_if : Bool → ℕ → ℕ
place_if true place = place + 4
place_if false place = place

abbrev pub place_after : Turn → ℕ
place_after turn = place_if turn.begun turn.place

-- there is room for it
pub record Closes (turn : Turn) (next n : ℕ) : Type 0 where
  pub low : turn.before ≤ next
  pub room : place_after turn ≤ n

-- none follows: no more are asked for, or the bytes end
abbrev pub done_in : Bool → List ℕ → Turn → Bool
done_in single s turn = cond (eqb turn.left 0) true (cut_at single s turn.at)

-- what the next packet's turn asks for
pub record Follows (single : Bool) (s : List ℕ) (turn : Turn) : Type 0 where
  pub left : 1 ≤ turn.left
  pub place : place_after turn ≤ 18446744073709551615
  pub lies : Lies single s turn.at
