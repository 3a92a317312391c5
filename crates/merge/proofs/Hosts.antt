-- What demand 3 means for hosts: the lines' losses, cuts and order leave no trace.
-- Assumes nothing.
use Prim.Native.Nat.{ℕ, ◌≤◌, ◌<◌}
use mathlib.Core.Path.{◌≡◌, sym, ap, ◌∙◌}
use mathlib.Core.List.{List}
use mathlib.Core.Option.{Option, some}
use Rattle.merge.specs.State.{Feed, Packet, State}
use Rattle.merge.specs.History.{Carried, Lowest, first_copy, Genuine, tables_of, sent_tables}
use Rattle.merge.specs.Promise.{Demand3}
use Rattle.merge.proofs.Copies.{told_yes, told_copy, first_told}
use Rattle.merge.proofs.Tables.{tables_copies, tables_agree}
use Rattle.merge.proofs.Lowest.{lowest_unique}

module _ {Msg : Type 0} {s : ℕ} {g h : List (Packet Msg)} (same : (k : ℕ) → s ≤ k → first_copy g k ≡ first_copy h k) where
  lowest_copies : {n : ℕ} → Lowest s g n → Lowest s h n
  lowest_copies {n} low =
      record {
        from = low.from;
        carried = λ k lo hi. told_yes (first_told h k) (sym (same k lo) ∙ (told_copy (first_told g k) (low.carried k lo hi)).1);
        missing = λ c. low.missing (told_yes (first_told g n) (same n low.from ∙ (told_copy (first_told h n) c).1));
      }

module _ {Msg Table : Type 0} {feed : Feed Msg Table} {start : Table} {s : ℕ} {g h : List (Packet Msg)} {x y : State Msg Table} (one : Demand3 feed start s g x) (other : Demand3 feed start s h y) where
  -- Two hosts with one opening and one next, and the same first copy of each number below it, hold equal tables.
  pub hosts_agree : x.next ≡ y.next → ((k : ℕ) → s ≤ k → k < x.next → first_copy g k ≡ first_copy h k) → x.tables ≡ y.tables
  hosts_agree at same =
      one.tables
      ∙ tables_agree feed start s x.next g h same
      ∙ ap (λ (n : ℕ). tables_of feed start s n h) at
      ∙ sym other.tables

  -- If they accepted the same first copies throughout and both applied to the end, they have come equally far.
  pub hosts_meet : ((k : ℕ) → s ≤ k → first_copy g k ≡ first_copy h k) → Lowest s g x.next → Lowest s h y.next → x.next ≡ y.next
  hosts_meet same low low' = lowest_unique (lowest_copies same low) low'

module _ {Msg Table : Type 0} (feed : Feed Msg Table) (start : Table) (sent : ℕ → Msg) {s : ℕ} {h : List (Packet Msg)} (genuine : Genuine sent h) where
  -- Once each number from s to m - 1 was carried, their tables are those of what was sent.
  pub range_sent : (m : ℕ) → ((k : ℕ) → s ≤ k → k < m → Carried k h) → tables_of feed start s m h ≡ sent_tables feed start sent s m
  unfolding sent_tables
  range_sent m carried =
      tables_copies feed start (λ k. some (sent k)) s m h λ k lo hi.
      let c = told_copy (first_told h k) (carried k lo hi) in
      c.1 ∙ ap {B = Option Msg} some (genuine k c.0 c.1)

  pub host_sent : {x : State Msg Table} → Demand3 feed start s h x → x.tables ≡ sent_tables feed start sent s x.next
  host_sent {x} one = one.tables ∙ range_sent x.next one.carried
