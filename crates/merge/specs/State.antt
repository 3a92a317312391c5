-- Document 01, "Taking a packet", from where the packet's messages are known: a session and what a packet does to it, over any kind of message and any tables.
-- Assumes nothing.
use Rattle.std.specs.Prelude.{ℕ, zero, suc, ◌+◌, ◌-◌, max, min, Bool, true, false, cond, not, ◌&&◌, List, [], ◌∷◌, ◌++◌, leb, ltb, eqb, length}
use Rattle.std.proofs.Math.Option.{Option, none, some}
use Rattle.std.proofs.Math.ListN.{get_elem?}

-- A feed: what a message does to the tables under its number.
pub record Feed (Msg Table : Type 0) : Type 0 where
  pub apply : Table → ℕ → Msg → Table

-- A packet: its first message has the number first, each further one the number after.
pub record Packet (Msg : Type 0) : Type 0 where
  pub first : ℕ
  pub messages : List Msg

-- A session: for each number the message that waits under it, if one does. The tables hold all else that applying changes.
pub record State (Msg Table : Type 0) : Type 0 where
  pub next : ℕ
  pub end : ℕ
  pub waiting : ℕ → Option Msg
  pub tables : Table

module _ {Msg : Type 0} where
  abbrev pub packet : ℕ → List Msg → Packet Msg
  packet n ms = record { first = n; messages = ms }

  -- A heartbeat has no message; its SeqNum stands where a first number would.
  abbrev pub heartbeat : ℕ → Packet Msg
  heartbeat n = packet n []

  -- A packet of one message.
  abbrev pub single : ℕ → Msg → Packet Msg
  single k m = packet k (m ∷ [])

  -- The end that a packet makes known: one above its last number, and of a heartbeat its SeqNum.
  abbrev pub end_of : Packet Msg → ℕ
  end_of p = p.first + length p.messages

  -- The message that a packet has under number k.
  unfoldable pub copy_of : Packet Msg → ℕ → Option Msg
  copy_of p k = cond (leb p.first k) (get_elem? p.messages (k - p.first)) none

  -- The first of two copies that is there.
  abbrev pub first_there : Option Msg → Option Msg → Option Msg
  first_there none second = second
  first_there (some m) second = some m

  abbrev pub is_there : Option Msg → Bool
  is_there none = false
  is_there (some m) = true

  -- The first of c numbers from k on under which nothing waits; the one behind them, where something does under each.
  unfoldable pub lowest_from : (ℕ → Option Msg) → ℕ → ℕ → ℕ
  lowest_from waiting k zero = k
  lowest_from waiting k (suc c) = cond (is_there (waiting k)) (lowest_from waiting (k + 1) c) k

-- How many of c numbers from k on pass a test.
unfoldable pub count_from : (ℕ → Bool) → ℕ → ℕ → ℕ
count_from test k zero = 0
count_from test k (suc c) = cond (test k) 1 0 + count_from test (k + 1) c

module _ {Msg Table : Type 0} where
  -- The fresh session for opening number s, with the tables that the opening starts from.
  unfoldable pub opened : Table → ℕ → State Msg Table
  opened start s = record { next = s; end = s; waiting = λ k. none; tables = start }

  -- What waits under k once p is kept: below next nothing new, and a copy that waits already stays.
  unfoldable pub kept_at : State Msg Table → Packet Msg → ℕ → Option Msg
  kept_at x p k = cond (ltb k x.next) (x.waiting k) (first_there (x.waiting k) (copy_of p k))

  -- Keeping a packet: its end counts if it is larger, its messages wait, nothing is applied.
  unfoldable pub keep : State Msg Table → Packet Msg → State Msg Table
  keep x p = record { next = x.next; end = max x.end (end_of p); waiting = kept_at x p; tables = x.tables }

  -- The session once a packet is kept, if there is one.
  unfoldable pub kept_if : State Msg Table → Option (Packet Msg) → State Msg Table
  kept_if x none = x
  kept_if x (some p) = keep x p

  -- Number k waits once p is kept and did not before.
  unfoldable pub fresh_at : State Msg Table → Packet Msg → ℕ → Bool
  fresh_at x p k = not (is_there (x.waiting k)) && is_there ((keep x p).waiting k)

  -- How many numbers of a packet now wait that did not before.
  unfoldable pub fresh_in : State Msg Table → Packet Msg → ℕ
  fresh_in x p = count_from (fresh_at x p) p.first (length p.messages)

  abbrev pub fresh_if : State Msg Table → Option (Packet Msg) → ℕ
  fresh_if x none = 0
  fresh_if x (some p) = fresh_in x p

  -- What waits under k once the message at next is applied: its own place is free.
  unfoldable pub freed_at : State Msg Table → ℕ → Option Msg
  freed_at x k = cond (eqb k x.next) none (x.waiting k)

  -- One step of applying, by what waits at next.
  unfoldable pub step : Feed Msg Table → State Msg Table → Option Msg → State Msg Table
  step feed x none = x
  step feed x (some m) =
      record { next = x.next + 1; end = x.end; waiting = freed_at x; tables = feed.apply x.tables x.next m }

  -- Applying from the front, c steps or as many as there are messages for.
  unfoldable pub apply_up_to : Feed Msg Table → ℕ → State Msg Table → State Msg Table
  apply_up_to feed zero x = x
  apply_up_to feed (suc c) x = apply_up_to feed c (step feed x (x.waiting x.next))

  -- The lowest number not carried: from next on, the first that does not wait. No more than W can wait.
  unfoldable pub lowest_in : ℕ → State Msg Table → ℕ
  lowest_in W x = lowest_from x.waiting x.next W

-- A channel: a feed, the size of the waiting window, and a judge. Of what a host hands in, the judge answers the packet in it, or none if it refuses.
pub record Channel (Handed Msg Table : Type 0) : Type 0 where
  pub feed : Feed Msg Table
  pub window : ℕ
  pub judge : State Msg Table → Handed → Option (Packet Msg)

-- A call of a host: it hands in a packet to be kept, or applies up to a count.
pub data Call (Handed : Type 0) : Type 0 where
  keeping : Handed → Call Handed
  applying : ℕ → Call Handed

-- The calls that keeping all of a list is.
unfoldable pub keeps_of : {Handed : Type 0} → List Handed → List (Call Handed)
keeps_of [] = []
keeps_of (b ∷ bs) = keeping b ∷ keeps_of bs

module _ {Handed Msg Table : Type 0} where
  -- The first call: what is handed in is judged, and kept if the judge lets it pass. Nothing is applied.
  unfoldable pub keep_one : Channel Handed Msg Table → State Msg Table → Handed → State Msg Table
  keep_one ch x b = kept_if x (ch.judge x b)

  -- The second: up to a count is applied from the front. As no more can wait than the window has, a larger count is as good as that.
  unfoldable pub apply_some : Channel Handed Msg Table → ℕ → State Msg Table → State Msg Table
  apply_some ch c x = apply_up_to ch.feed (min c ch.window) x

  unfoldable pub call_one : Channel Handed Msg Table → State Msg Table → Call Handed → State Msg Table
  call_one ch x (keeping b) = keep_one ch x b
  call_one ch x (applying c) = apply_some ch c x

  -- Calls in a row, of both kinds.
  unfoldable pub call_all : Channel Handed Msg Table → State Msg Table → List (Call Handed) → State Msg Table
  call_all ch x [] = x
  call_all ch x (c ∷ cs) = call_all ch (call_one ch x c) cs

  -- Taking is both: what is handed in is kept, and unless it is refused all is applied that then can be.
  unfoldable pub take_if : Channel Handed Msg Table → State Msg Table → Option (Packet Msg) → State Msg Table
  take_if ch x none = x
  take_if ch x (some p) = apply_up_to ch.feed ch.window (keep x p)

  unfoldable pub take_one : Channel Handed Msg Table → State Msg Table → Handed → State Msg Table
  take_one ch x b = take_if ch x (ch.judge x b)

  -- Taking all of a list, one behind the other.
  unfoldable pub take_all : Channel Handed Msg Table → State Msg Table → List Handed → State Msg Table
  take_all ch x [] = x
  take_all ch x (b ∷ bs) = take_all ch (take_one ch x b) bs

  -- The calls that taking is.
  abbrev pub calls_if : Channel Handed Msg Table → Handed → Option (Packet Msg) → List (Call Handed)
  calls_if ch b none = keeping b ∷ []
  calls_if ch b (some p) = keeping b ∷ applying ch.window ∷ []

  unfoldable pub calls_of : Channel Handed Msg Table → State Msg Table → List Handed → List (Call Handed)
  calls_of ch x [] = []
  calls_of ch x (b ∷ bs) = calls_if ch b (ch.judge x b) ++ calls_of ch (take_one ch x b) bs
