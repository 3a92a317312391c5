-- Test 9 and the window: which packets fit, and where the numbers that wait lie.
-- Assumes nothing.
use Prim.Native.Nat.{ℕ, ◌+◌, ◌-◌, ◌≤◌, ◌<◌}
use native.Mathlib.Decide.{dec_lt, dec_le}
use native.Mathlib.Omega.{arith}
use mathlib.Core.Path.{◌≡◌, refl, sym, ◌∙◌, subst}
use mathlib.Core.List.{List, [], ◌∷◌}
use mathlib.Core.Logic.{by_cases}
use mathlib.Core.Option.{Option, none, some, none-ne-some}
use Rattle.merge.specs.State.{Feed, Packet, State, end_of, heartbeat}
use Rattle.merge.specs.History.{Carried, here, later, largest_end}
use Rattle.merge.specs.Promise.{Inv, Fits, Waits}
use Rattle.merge.proofs.Copies.{Told, told_yes, first_told}

module _ {Msg Table : Type 0} (W : ℕ) (x : State Msg Table) where
  -- A packet fits exactly if its last number is below next + W; a heartbeat has none and always fits.
  pub fits_end : (p : Packet Msg) → end_of p ≤ x.next + W → Fits W x p
  fits_end p hi k c = omega (arith, c.high)

  pub fits_heartbeat : (n : ℕ) → Fits W x (heartbeat n)
  fits_heartbeat n k c = absurd (omega (arith, c.low, c.high))

module _ {Msg : Type 0} where
  pub end_start : (s : ℕ) (h : List (Packet Msg)) → s ≤ largest_end s h
  unfolding largest_end
  end_start s [] = omega arith
  end_start s (p ∷ h) = omega (arith, end_start s h)

  pub end_carried : (s : ℕ) {k : ℕ} {h : List (Packet Msg)} → Carried k h → k < largest_end s h
  unfolding largest_end
  end_carried s (here c) = omega (arith, c.high)
  end_carried s (later c) = omega (arith, end_carried s c)

module _ {Msg Table : Type 0} {feed : Feed Msg Table} {start : Table} {W s : ℕ} {h : List (Packet Msg)} {x : State Msg Table} (inv : Inv feed W start s h x) where
  pub next_end : x.next ≤ x.end
  next_end =
      by_cases (dec_lt s x.next)
      (λ l. omega (arith, inv.end, end_carried s (inv.passed (x.next - 1) (omega arith) (omega arith))))
      (λ l. omega (arith, inv.end, end_start s h))

  -- From next on a number waits exactly if it was carried: what is missing was never accepted.
  pub waits-carried : (k : ℕ) → x.next ≤ k → Told (x.waiting k) (Carried k h)
  waits-carried k lo = subst (λ (o : Option Msg). Told o (Carried k h)) (sym (inv.waits k lo)) (first_told h k)

  pub waits_where : (k : ℕ) {m : Msg} → x.waiting k ≡ some m → Waits W x k
  waits_where k e =
      let low : x.next ≤ k =
      by_cases (dec_le x.next k) (λ l. l) (λ l. absurd (none-ne-some _ (sym (inv.old k (omega arith)) ∙ e))) in
      record {
        low = low;
        high = by_cases (dec_lt k (x.next + W)) (λ l. l) (λ l. absurd (none-ne-some _ (sym (inv.near k (omega arith)) ∙ e)));
        known = omega (arith, inv.end, end_carried s (told_yes (waits-carried k low) e));
      }

  -- Where end is next, nothing waits.
  pub nothing_waits : x.end ≡ x.next → (k : ℕ) → x.waiting k ≡ none
  nothing_waits level k = go (x.waiting k) (λ m e. let w = waits_where k e in omega (arith, w.low, w.known))
    where
      go : (o : Option Msg) → ((m : Msg) → o ≡ some m → ⊥) → o ≡ none
      go none never = refl
      go (some m) never = absurd (never m refl)
