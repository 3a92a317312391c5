-- The tables of s to n - 1: what one number more does to them, and that they depend on the copies of those numbers alone.
-- Assumes nothing.
use Prim.Native.Nat.{ℕ, zero, suc, ◌+◌, ◌-◌, ◌≤◌, ◌<◌}
use native.Mathlib.Omega.{arith}
use mathlib.Core.Path.{◌≡◌, refl, ap, ap₂, ◌∙◌}
use mathlib.Core.List.{List}
use mathlib.Core.Option.{Option}
use Rattle.merge.specs.State.{Feed, Packet}
use Rattle.merge.specs.History.{first_copy, applied, running, tables_of}

module _ {Msg Table : Type 0} (feed : Feed Msg Table) (start : Table) where
  running_agree : (f g : ℕ → Option Msg) (s c : ℕ) → ((k : ℕ) → s ≤ k → k < s + c → f k ≡ g k)
      → running feed start f s c ≡ running feed start g s c
  unfolding running
  running_agree f g s zero same = refl
  running_agree f g s (suc c) same =
      ap₂ (λ (t : Table) (o : Option Msg). applied feed t (s + c) o)
      (running_agree f g s c (λ k lo hi. same k lo (omega arith)))
      (same (s + c) (omega arith) (omega arith))

  -- The same copies from s to n - 1 give the same tables, whatever else was carried.
  pub tables_copies : (f : ℕ → Option Msg) (s n : ℕ) (h : List (Packet Msg)) → ((k : ℕ) → s ≤ k → k < n → first_copy h k ≡ f k)
      → tables_of feed start s n h ≡ running feed start f s (n - s)
  unfolding tables_of
  tables_copies f s n h same = running_agree (first_copy h) f s (n - s) (λ k lo hi. same k lo (omega arith))

  pub tables_agree : (s n : ℕ) (g h : List (Packet Msg)) → ((k : ℕ) → s ≤ k → k < n → first_copy g k ≡ first_copy h k)
      → tables_of feed start s n g ≡ tables_of feed start s n h
  unfolding tables_of
  tables_agree s n g h same = tables_copies (first_copy h) s n g same

  pub tables_none : (s : ℕ) (h : List (Packet Msg)) → tables_of feed start s s h ≡ start
  unfolding tables_of running
  tables_none s h = let z : s - s ≡ 0 = omega arith in ap (running feed start (first_copy h) s) z

  -- Number n comes behind those of s to n - 1.
  pub tables_more : (s n : ℕ) (h : List (Packet Msg)) → s ≤ n
      → tables_of feed start s (n + 1) h ≡ applied feed (tables_of feed start s n h) n (first_copy h n)
  unfolding tables_of running
  tables_more s n h lo =
      let one : n + 1 - s ≡ suc (n - s) = omega arith in
      let at : s + (n - s) ≡ n = omega arith in
      ap (running feed start (first_copy h) s) one
      ∙ ap (λ (k : ℕ). applied feed (running feed start (first_copy h) s (n - s)) k (first_copy h k)) at
