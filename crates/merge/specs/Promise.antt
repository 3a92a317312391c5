-- The rule that ties a session to its history, and demand 3.
-- Assumes nothing.
use Rattle.std.specs.Prelude.{ℕ, ◌+◌, ◌≤◌, ◌<◌, ◌≡◌, List}
use Rattle.std.proofs.Math.Option.{none, some}
use Rattle.merge.specs.State.{Feed, Packet, State, Channel, copy_of}
use Rattle.merge.specs.History.{Carries, Carried, Lowest, first_copy, largest_end, tables_of}

module _ {Msg Table : Type 0} where
  -- State x, opened at s from the tables start, with history h and a window of W. Here next is the lowest number not applied; numbers that were carried may wait from it on.
  pub record Inv (feed : Feed Msg Table) (W : ℕ) (start : Table) (s : ℕ) (h : List (Packet Msg)) (x : State Msg Table) : Type 0 where
    pub from : s ≤ x.next
    pub passed : (k : ℕ) → s ≤ k → k < x.next → Carried k h
    pub old : (k : ℕ) → k < x.next → x.waiting k ≡ none
    pub waits : (k : ℕ) → x.next ≤ k → x.waiting k ≡ first_copy h k
    pub near : (k : ℕ) → x.next + W ≤ k → x.waiting k ≡ none
    pub tables : x.tables ≡ tables_of feed start s x.next h
    pub end : x.end ≡ largest_end s h

  -- Demand 3, with next as a, the lowest number not applied. From s on all numbers below a were carried, and a is at most n, the lowest
  -- number that was not; the tables are those of s to a - 1.
  pub record Demand3 (feed : Feed Msg Table) (start : Table) (s : ℕ) (h : List (Packet Msg)) (x : State Msg Table) : Type 0 where
    pub from : s ≤ x.next
    pub carried : (k : ℕ) → s ≤ k → k < x.next → Carried k h
    pub most : (n : ℕ) → Lowest s h n → x.next ≤ n
    pub tables : x.tables ≡ tables_of feed start s x.next h
    pub end : x.end ≡ largest_end s h

  -- Where a number that waits can lie.
  pub record Waits (W : ℕ) (x : State Msg Table) (k : ℕ) : Type 0 where
    pub low : x.next ≤ k
    pub high : k < x.next + W
    pub known : k < x.end

  -- Test 9 passed: all numbers of the packet, its last among them, are below next + W.
  abbrev pub Fits : ℕ → State Msg Table → Packet Msg → Type 0
  Fits W x p = (k : ℕ) → Carries p k → k < x.next + W

  -- Test 10 passed: where a number of the packet waits, the two copies are equal.
  abbrev pub Agrees : State Msg Table → Packet Msg → Type 0
  Agrees x p = (k : ℕ) (m m' : Msg) → x.waiting k ≡ some m → copy_of p k ≡ some m' → m ≡ m'

-- All that demand 3 asks of a judge: test 9. Which further packets it refuses is its own affair, and test 10 too, since the first copy is kept in any case.
pub record Judged {Handed Msg Table : Type 0} (ch : Channel Handed Msg Table) : Type 0 where
  pub fits : (x : State Msg Table) (b : Handed) (p : Packet Msg) → ch.judge x b ≡ some p → Fits ch.window x p

-- The rule on a channel for a session opened at s, which the opening gives and every call keeps: behind a call messages may be left that
-- could be applied.
abbrev pub Rule : {Handed Msg Table : Type 0} → Channel Handed Msg Table → Table → ℕ → List (Packet Msg) → State Msg Table → Type 0
Rule ch start s h x = Inv ch.feed ch.window start s h x
