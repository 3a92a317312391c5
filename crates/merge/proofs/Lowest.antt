-- The lowest number not carried: there is one only, next never stands above it, and applying comes as near to it as its count allows.
-- Assumes nothing.
use Prim.Native.Nat.{ℕ, zero, suc, ◌+◌, ◌-◌, ◌≤◌, ◌<◌, min}
use native.Mathlib.Decide.{dec_le, dec_lt}
use native.Mathlib.Omega.{arith}
use mathlib.Core.Path.{◌≡◌, refl, sym, ap, ◌∙◌, subst}
use mathlib.Core.List.{List, [], ◌∷◌, ◌++◌}
use mathlib.Core.Logic.{by_cases}
use mathlib.Core.Bool.{Bool, true, false, cond}
use mathlib.Core.Option.{Option, none, some}
use Rattle.merge.specs.State.{Feed, Packet, State, end_of, keep, step, apply_up_to, is_there, lowest_from, lowest_in}
use Rattle.merge.specs.History.{Carried, Lowest}
use Rattle.merge.specs.Promise.{Inv, Fits}
use Rattle.merge.proofs.Copies.{told_no, told_none, told_yes, first_told, carried_last}
use Rattle.merge.proofs.Rule.{keep_inv, apply_inv}
use Rattle.merge.proofs.Window.{waits-carried, waits_where}

module _ {Msg : Type 0} {s : ℕ} {h : List (Packet Msg)} where
  -- From s on all numbers below n were carried, and m was not: n is at most m.
  below : {n m : ℕ} → ((k : ℕ) → s ≤ k → k < n → Carried k h) → Lowest s h m → n ≤ m
  below {n} {m} all low = by_cases (dec_lt m n) (λ l. absurd (low.missing (all m low.from l))) (λ l. omega arith)

  pub lowest_unique : {n m : ℕ} → Lowest s h n → Lowest s h m → n ≡ m
  lowest_unique a b = omega (arith, below a.carried b, below b.carried a)

module _ {Msg Table : Type 0} where
  -- Applying up to c either takes c steps or stops at a number that does not wait.
  data Went (c : ℕ) (x y : State Msg Table) : Type 0 where
    all : y.next ≡ x.next + c → Went c x y
    stopped : x.next ≤ y.next → y.next ≤ x.next + c → y.waiting y.next ≡ none → Went c x y

  went_more : {c : ℕ} {x y z : State Msg Table} → y.next ≡ x.next + 1 → Went c y z → Went (suc c) x z
  went_more one (all e) = all (omega arith)
  went_more one (stopped lo hi e) = stopped (omega arith) (omega arith) e

module _ {Msg Table : Type 0} (feed : Feed Msg Table) where
  -- Where nothing waits at next, applying does nothing.
  pub stuck : (c : ℕ) {x : State Msg Table} → x.waiting x.next ≡ none → apply_up_to feed c x ≡ x
  unfolding apply_up_to step
  stuck zero e = refl
  stuck (suc c) {x} e = ap (λ (o : Option Msg). apply_up_to feed c (step feed x o)) e ∙ stuck c e

  went : (c : ℕ) (x : State Msg Table) → Went c x (apply_up_to feed c x)
  unfolding apply_up_to step
  went zero x = all (omega arith)
  went (suc c) x = go (x.waiting x.next) refl (went c)
    where
      go : (o : Option Msg) → x.waiting x.next ≡ o → ((y : State Msg Table) → Went c y (apply_up_to feed c y))
          → Went (suc c) x (apply_up_to feed c (step feed x o))
      go none e more = subst (Went (suc c) x) (sym (stuck c e)) (stopped (omega arith) (omega arith) e)
      go (some m) e more = went_more refl (more (step feed x (some m)))

module _ {Msg Table : Type 0} {feed : Feed Msg Table} {start : Table} {W s : ℕ} {h : List (Packet Msg)} {x : State Msg Table} (inv : Inv feed W start s h x) where
  -- Next never stands above the lowest number not carried, and where nothing waits at next, it is that number.
  pub next_below : {n : ℕ} → Lowest s h n → x.next ≤ n
  next_below low = below inv.passed low

  pub stuck_lowest : x.waiting x.next ≡ none → Lowest s h x.next
  stuck_lowest e =
      record {
        from = inv.from;
        carried = inv.passed;
        missing = told_no (first_told h x.next) (sym (inv.waits x.next (omega arith)) ∙ e);
      }

  pub front_free : Lowest s h x.next → x.waiting x.next ≡ none
  front_free low = inv.waits x.next (omega arith) ∙ told_none (first_told h x.next) low.missing

module _ {Msg Table : Type 0} {feed : Feed Msg Table} {start : Table} {W s : ℕ} {h : List (Packet Msg)} {x : State Msg Table} (inv : Inv feed W start s h x) where
  -- All that waits lies within the window, so applying up to W leaves nothing that could be applied.
  pub apply_settles : (apply_up_to feed W x).waiting (apply_up_to feed W x).next ≡ none
  apply_settles = go (went feed W x)
    where
      y : State Msg Table
      y = apply_up_to feed W x

      after : Inv feed W start s h y
      after = apply_inv feed W s W inv

      go : Went W x y → y.waiting y.next ≡ none
      go (stopped lo hi e) = e
      go (all e) =
          after.waits y.next (omega arith)
          ∙ sym (inv.waits y.next (omega arith))
          ∙ inv.near y.next (omega arith)

  pub apply_lowest : Lowest s h (apply_up_to feed W x).next
  apply_lowest = stuck_lowest (apply_inv feed W s W inv) apply_settles

  -- Once a packet that starts at or below next is kept, the lowest number not carried is past its last number.
  pub keep_past : (p : Packet Msg) {n : ℕ} → Fits W x p → p.first ≤ x.next → Lowest s (h ++ (p ∷ [])) n → end_of p ≤ n
  unfolding keep
  keep_past p {n} fits start low =
      let up : x.next ≤ n = next_below (keep_inv feed W s inv p fits) low in
      by_cases (dec_lt n (end_of p))
      (λ l. absurd (low.missing (carried_last h record { low = omega arith; high = l })))
      (λ l. omega arith)

module _ {Msg Table : Type 0} (feed : Feed Msg Table) where
  -- Applying in two parts is applying once.
  pub apply_more : (c d : ℕ) (x : State Msg Table) → apply_up_to feed (c + d) x ≡ apply_up_to feed d (apply_up_to feed c x)
  unfolding apply_up_to
  apply_more zero d x = let e : 0 + d ≡ d = omega arith in ap (λ (n : ℕ). apply_up_to feed n x) e
  apply_more (suc c) d x =
      let e : suc c + d ≡ suc (c + d) = omega arith in
      ap (λ (n : ℕ). apply_up_to feed n x) e ∙ apply_more c d (step feed x (x.waiting x.next))

  -- A count leaves nothing that could be applied.
  abbrev pub Settles : ℕ → State Msg Table → Type 0
  Settles c x = (apply_up_to feed c x).waiting (apply_up_to feed c x).next ≡ none

  -- A count that does is as good as any larger one.
  pub apply_enough : (c most : ℕ) (x : State Msg Table) → Settles most x → apply_up_to feed (min c most) x ≡ apply_up_to feed c x
  apply_enough c most x settles =
      by_cases (dec_le c most)
      (λ l. let e : min c most ≡ c = omega arith in ap (λ (n : ℕ). apply_up_to feed n x) e)
      (λ l.
      let e : min c most ≡ most = omega arith in
      let f : c ≡ most + (c - most) = omega arith in
      ap (λ (n : ℕ). apply_up_to feed n x) e
      ∙ sym (ap (λ (n : ℕ). apply_up_to feed n x) f ∙ apply_more most (c - most) x ∙ stuck feed (c - most) settles))

module _ {Msg Table : Type 0} {feed : Feed Msg Table} {start : Table} {W s : ℕ} {h : List (Packet Msg)} {x : State Msg Table} (inv : Inv feed W start s h x) where
  -- What waits lies below end, so a count that reaches end leaves nothing that could be applied.
  pub reach_settles : (c : ℕ) → x.end ≤ x.next + c → Settles feed c x
  reach_settles c far = go (went feed c x)
    where
      y : State Msg Table
      y = apply_up_to feed c x

      after : Inv feed W start s h y
      after = apply_inv feed W s c inv

      none_there : (o : Option Msg) → ((m : Msg) → o ≡ some m → ⊥) → o ≡ none
      none_there none never = refl
      none_there (some m) never = absurd (never m refl)

      go : Went c x y → y.waiting y.next ≡ none
      go (stopped lo hi e) = e
      go (all e) = none_there (y.waiting y.next) (λ m w. omega (arith, (waits_where after y.next w).known, after.end, inv.end))

  -- Applying moves next by the smaller of its count and what is left up to the lowest number not carried.
  pub apply_moves : (c : ℕ) {n : ℕ} → Lowest s h n → (apply_up_to feed c x).next ≡ x.next + min c (n - x.next)
  apply_moves c {n} low = go (went feed c x)
    where
      y : State Msg Table
      y = apply_up_to feed c x

      after : Inv feed W start s h y
      after = apply_inv feed W s c inv

      go : Went c x y → y.next ≡ x.next + min c (n - x.next)
      go (all e) = omega (arith, next_below after low)
      go (stopped lo hi e) = omega (arith, lowest_unique (stuck_lowest after e) low)

module _ {Msg : Type 0} where
  there_some : (o : Option Msg) → is_there o ≡ true → (m : Msg) × (o ≡ some m)
  there_some none e = absurd (omega (arith, ap {B = ℕ} (λ (b : Bool). cond b 1 0) e))
  there_some (some m) e = (m, refl)

  there_none : (o : Option Msg) → is_there o ≡ false → o ≡ none
  there_none none e = refl
  there_none (some m) e = absurd (omega (arith, ap {B = ℕ} (λ (b : Bool). cond b 1 0) e))

  -- Where the look for a number that does not wait has ended.
  record Looked (waiting : ℕ → Option Msg) (k c r : ℕ) : Type 0 where
    low : k ≤ r
    high : r ≤ k + c
    waits : (j : ℕ) → k ≤ j → j < r → (m : Msg) × (waiting j ≡ some m)
    free : r < k + c → waiting r ≡ none

  looked : (waiting : ℕ → Option Msg) (k c : ℕ) → Looked waiting k c (lowest_from waiting k c)
  unfolding lowest_from
  looked waiting k zero = record { low = omega arith; high = omega arith; waits = λ j lo hi. absurd (omega arith); free = λ l. absurd (omega arith) }
  looked waiting k (suc c) = go (is_there (waiting k)) refl (looked waiting (k + 1) c)
    where
      go : (b : Bool) → is_there (waiting k) ≡ b → Looked waiting (k + 1) c (lowest_from waiting (k + 1) c) → Looked waiting k (suc c) (cond b (lowest_from waiting (k + 1) c) k)
      go true e more =
          record {
            low = omega (arith, more.low);
            high = omega (arith, more.high);
            waits = λ j lo hi.
                by_cases (dec_lt k j)
                (λ l. more.waits j (omega arith) hi)
                (λ l. let at : k ≡ j = omega arith in subst (λ (i : ℕ). (m : Msg) × (waiting i ≡ some m)) at (there_some (waiting k) e));
            free = λ l. more.free (omega arith);
          }
      go false e more = record { low = omega arith; high = omega arith; waits = λ j lo hi. absurd (omega arith); free = λ l. there_none (waiting k) e }

module _ {Msg Table : Type 0} {feed : Feed Msg Table} {start : Table} {W s : ℕ} {h : List (Packet Msg)} {x : State Msg Table} (inv : Inv feed W start s h x) where
  -- The first number from next on that does not wait is the lowest that was not carried.
  pub lowest_in_lem : Lowest s h (lowest_in W x)
  unfolding lowest_in
  lowest_in_lem =
      let n = lowest_from x.waiting x.next W in
      let to = looked x.waiting x.next W in
      let free : x.waiting n ≡ none = by_cases (dec_lt n (x.next + W)) (λ l. to.free l) (λ l. inv.near n (omega arith)) in
      record {
        from = omega (arith, inv.from, to.low);
        carried = λ k lo hi.
            by_cases (dec_lt k x.next)
            (λ l. inv.passed k lo l)
            (λ l. told_yes (waits-carried inv k (omega arith)) (to.waits k (omega arith) hi).1);
        missing = told_no (waits-carried inv n to.low) free;
      }

  -- So taken to the end, next is that number.
  pub apply_reaches : (apply_up_to feed W x).next ≡ lowest_in W x
  apply_reaches = lowest_unique (apply_lowest inv) lowest_in_lem
