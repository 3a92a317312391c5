-- The other side of demand 3: what the accepted packets determine, with no session in sight. A history lists them in the order of acceptance.
-- Assumes nothing.
use Rattle.std.specs.Prelude.{ℕ, zero, suc, ◌+◌, ◌-◌, ◌≤◌, ◌<◌, max, ◌≡◌, List, [], ◌∷◌}
use Rattle.std.proofs.Math.Option.{Option, none, some}
use Rattle.merge.specs.State.{Feed, Packet, State, Channel, Call, keeping, applying, end_of, copy_of, first_there, call_one}

module _ {Msg : Type 0} where
  -- Packet p has a message numbered k.
  pub record Carries (p : Packet Msg) (k : ℕ) : Type 0 where
    pub low : p.first ≤ k
    pub high : k < end_of p

  -- Some packet of the history carries k: the oldest one, or one behind it.
  pub data Carried (k : ℕ) : List (Packet Msg) → Type 0 where
    here : {p : Packet Msg} {h : List (Packet Msg)} → Carries p k → Carried k (p ∷ h)
    later : {p : Packet Msg} {h : List (Packet Msg)} → Carried k h → Carried k (p ∷ h)

  -- Demand 3's n: from s on it is the lowest number that was not carried.
  pub record Lowest (s : ℕ) (h : List (Packet Msg)) (n : ℕ) : Type 0 where
    pub from : s ≤ n
    pub carried : (k : ℕ) → s ≤ k → k < n → Carried k h
    pub missing : ¬ Carried n h

  -- Message k as the oldest packet that carries it has it.
  unfoldable pub first_copy : List (Packet Msg) → ℕ → Option Msg
  first_copy [] k = none
  first_copy (p ∷ h) k = first_there (copy_of p k) (first_copy h k)

  -- The first copies are what the sender sent under their numbers.
  abbrev pub Genuine : (ℕ → Msg) → List (Packet Msg) → Type 0
  Genuine sent h = (k : ℕ) (m : Msg) → first_copy h k ≡ some m → m ≡ sent k

  -- The largest end made known, by the opening or by a packet.
  unfoldable pub largest_end : ℕ → List (Packet Msg) → ℕ
  largest_end s [] = s
  largest_end s (p ∷ h) = max (end_of p) (largest_end s h)

  -- A history with one packet more in front, if there is one.
  abbrev pub joined : Option (Packet Msg) → List (Packet Msg) → List (Packet Msg)
  joined none h = h
  joined (some p) h = p ∷ h

module _ {Msg Table : Type 0} where
  -- The tables with number k applied, if there is a copy of it.
  abbrev pub applied : Feed Msg Table → Table → ℕ → Option Msg → Table
  applied feed t k none = t
  applied feed t k (some m) = feed.apply t k m

  -- The tables after the c numbers from s on, one application for each, in rising order, from those that the opening starts from.
  unfoldable pub running : Feed Msg Table → Table → (ℕ → Option Msg) → ℕ → ℕ → Table
  running feed start copies s zero = start
  running feed start copies s (suc c) = applied feed (running feed start copies s c) (s + c) (copies (s + c))

  -- Demand 3's tables, for the numbers s to n - 1: of each its first copy.
  unfoldable pub tables_of : Feed Msg Table → Table → ℕ → ℕ → List (Packet Msg) → Table
  tables_of feed start s n h = running feed start (first_copy h) s (n - s)

  -- The same of what was sent: no packet is named, so nothing of the lines can show.
  unfoldable pub sent_tables : Feed Msg Table → Table → (ℕ → Msg) → ℕ → ℕ → Table
  sent_tables feed start sent s n = running feed start (λ k. some (sent k)) s (n - s)

module _ {Handed Msg Table : Type 0} where
  -- What a call brings: the packet in what it hands in, if the judge lets it pass.
  abbrev pub brought_by : Channel Handed Msg Table → State Msg Table → Call Handed → Option (Packet Msg)
  brought_by ch x (keeping b) = ch.judge x b
  brought_by ch x (applying c) = none

  -- The history that calls make.
  unfoldable pub accepted : Channel Handed Msg Table → State Msg Table → List (Call Handed) → List (Packet Msg)
  accepted ch x [] = []
  accepted ch x (c ∷ cs) = joined (brought_by ch x c) (accepted ch (call_one ch x c) cs)
