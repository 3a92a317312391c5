-- Document 01, "Taking a packet", on the window alone: what waits in it, and what it holds once a packet is kept.
-- Assumes nothing.
use Rattle.std.specs.Prelude.{◌≡◌, Bool, true, false, cond, ◌&&◌, List, [], ◌∷◌, ℕ, ◌+◌, ◌≤◌, ◌<◌, eqb, length, Result, None}
use Rattle.std.proofs.Math.Option.{Option, none, some}
use Rattle.wire.specs.Number.{part}
use Rattle.refusals.specs.Refusals.{answered}
use Rattle.refusals.specs.declared.Refusal.{Refusal}
use Rattle.merge.specs.State.{Packet, State, fresh_if, kept_if}
use Rattle.merge.specs.Places.{waiting_in, number_at}
use Rattle.packet.specs.Header.{decided}
use Rattle.packet.specs.Walk.{walk_from}
use Rattle.window.specs.Window.{waits_at, window_of}
use Rattle.message.specs.Whole.{Whole}
use Rattle.window_taking.specs.Taking.{judge, take_tests}
use Rattle.window_taking.specs.declared.admitting.Admitted.{Admitted}
use Rattle.window_taking.specs.declared.admitting.Apply.{Apply}
use Rattle.window_taking.specs.declared.admitting.Apply.TheVariants.{Now, Later}

-- what waits under a number, by a window of which next is the first number
unfoldable pub waiting_of : List ℕ → ℕ → ℕ → Option (List ℕ)
waiting_of window next = waiting_in 256 (waits_at window) next

-- the one window that holds what waits from next on
unfoldable pub window_for : (ℕ → Option (List ℕ)) → ℕ → List ℕ
window_for waiting next = window_of (λ place. waiting (number_at 256 next place))

-- a window by itself, as a session that has no tables
abbrev pub state_of : List ℕ → ℕ → ℕ → State (List ℕ) (Unit {0})
state_of window next end = record { next = next; end = end; waiting = waiting_of window next; tables = tt }

-- the rule of a window: it is the one for what waits in it, and that is whole messages
pub record Neat (window : List ℕ) (next : ℕ) : Type 0 where
  pub same : window ≡ window_for (waiting_of window next) next
  pub whole : (k : ℕ) (m : List ℕ) → waiting_of window next k ≡ some m → Whole m
  pub size : length window ≡ 32768
  pub top : next ≤ 4294967296

-- what waits lies below end
pub record Known (window : List ℕ) (next end : ℕ) : Type 0 where
  pub below : (k : ℕ) (m : List ℕ) → waiting_of window next k ≡ some m → k < end

-- a message of a packet: where it lies, and that it is whole
pub record Framed (s : List ℕ) (at size : ℕ) : Type 0 where
  pub within : at + size ≤ length s
  pub most : size ≤ 128
  pub whole : Whole (part s at size)

-- a packet that passed 7 to 9: its messages are whole, its numbers within the window
pub record Passed (s : List ℕ) (next first messages : ℕ) : Type 0 where
  pub walk : walk_from messages 12 s ≡ None
  pub long : 12 ≤ length s
  pub near : first + messages ≤ next + 256

-- whether a packet's messages are applied at once
abbrev pub at_once : Apply → Bool
at_once Now = true
at_once Later = false

abbrev pub starts_at : ℕ → Option (Packet (List ℕ)) → Bool
starts_at next none = false
starts_at next (some p) = eqb p.first next

abbrev pub count_of : Option (Packet (List ℕ)) → ℕ
count_of none = 0
count_of (some p) = length p.messages

module _ {Table : Type 0} where
  -- the session with a packet kept, if it is one that is taken
  abbrev pub kept_by : State (List ℕ) Table → List ℕ → State (List ℕ) Table
  kept_by x s = kept_if x (judge x s)

  -- how many of its numbers now wait that did not before
  abbrev pub fresh_by : State (List ℕ) Table → List ℕ → ℕ
  fresh_by x s = fresh_if x (judge x s)

  -- the packets of a list kept one after the other
  unfoldable pub kept_all : State (List ℕ) Table → List (List ℕ) → State (List ℕ) Table
  kept_all x [] = x
  kept_all x (s ∷ ss) = kept_all (kept_by x s) ss

  -- where nothing is known beyond next and the packet starts there, its messages can be applied straight from it, and none is kept
  unfoldable pub straight_in : State (List ℕ) Table → List ℕ → Bool
  straight_in x s = eqb x.end x.next && starts_at x.next (judge x s)

  -- so they are, where they are to be applied at once
  abbrev pub through_in : Bool → State (List ℕ) Table → List ℕ → Bool
  through_in through x s = through && straight_in x s

  -- what the window holds then
  unfoldable pub held_by : Bool → State (List ℕ) Table → List ℕ → State (List ℕ) Table
  held_by through x s = cond (through_in through x s) x (kept_by x s)

  -- the answer: the refusal of the test that applies; where none does, end behind the packet, how many messages are applied straight
  -- from it, and how many numbers now wait that did not before
  unfoldable pub admitted_of : Bool → State (List ℕ) Table → List ℕ → Result Admitted Refusal
  admitted_of through x s =
      answered (decided (take_tests x s)).0
      (record {
        end = (kept_by x s).end;
        direct = cond (through_in through x s) (count_of (judge x s)) 0;
        fresh = cond (through_in through x s) 0 (fresh_by x s);
      })
