-- The clauses of keeping and applying: what waits under each number afterwards, and how a packet may be kept message by message.
-- Assumes nothing.
use Prim.Native.Nat.{ℕ, zero, suc, ◌+◌, ◌≤◌, ◌<◌, max}
use native.Mathlib.Decide.{dec_lt, ℕ_discrete}
use native.Mathlib.Omega.{arith}
use mathlib.Core.Path.{◌≡◌, refl, sym, ap, ◌∙◌, fun_ext}
use mathlib.Core.Bool.{Bool, true, false, cond, not, ◌&&◌}
use mathlib.Core.List.{List, [], ◌∷◌}
use mathlib.Core.Logic.{by_cases}
use mathlib.Core.Option.{Option, none, some}
use borrow.Author.Tests.{lt-ltb, le-ltb, eq-eqb, ne_eqb}
use Rattle.merge.specs.State.{Packet, State, end_of, copy_of, first_there, packet, single, heartbeat}
use Rattle.merge.specs.State.{kept_at, keep, freed_at, is_there, fresh_at, fresh_in, count_from}
use Rattle.merge.specs.Promise.{Agrees}
use Rattle.merge.proofs.Copies.{chosen, copy_none, copy_other, copy_head, copy_cons, first_none, first_assoc}
use lib.ListN.{length}

-- Two functions of a number agree if they do at one number and at all others.
pub agree : {A : Type 0} (f g : ℕ → A) (k : ℕ) → f k ≡ g k → ((j : ℕ) → ¬ (j ≡ k) → f j ≡ g j) → (j : ℕ) → f j ≡ g j
agree f g k e others j = by_cases (ℕ_discrete j k) (λ q. ap f q ∙ e ∙ sym (ap g q)) (others j)

-- Sessions with equal parts are equal.
pub same_session : {Msg Table : Type 0} {x y : State Msg Table} → x.next ≡ y.next → x.end ≡ y.end
    → ((k : ℕ) → x.waiting k ≡ y.waiting k) → x.tables ≡ y.tables → x ≡ y
same_session nexts ends waits tables = λ i. record { next = nexts i; end = ends i; waiting = fun_ext waits i; tables = tables i }

module _ {Msg Table : Type 0} (x : State Msg Table) where
  pub freed_next : freed_at x x.next ≡ none
  unfolding freed_at
  freed_next = chosen _ _ (eq-eqb x.next x.next refl)

  pub freed_other : (k : ℕ) → ¬ (k ≡ x.next) → freed_at x k ≡ x.waiting k
  unfolding freed_at
  freed_other k ne = chosen _ _ (ne_eqb k x.next ne)

  module _ (p : Packet Msg) (k : ℕ) where
    pub kept_old : k < x.next → kept_at x p k ≡ x.waiting k
    unfolding kept_at
    kept_old lo = chosen _ _ (lt-ltb k x.next lo)

    pub kept_new : x.next ≤ k → kept_at x p k ≡ first_there (x.waiting k) (copy_of p k)
    unfolding kept_at
    kept_new hi = chosen _ _ (le-ltb k x.next hi)

    -- Both at once.
    kept_by : {o : Option Msg} → (k < x.next → x.waiting k ≡ o)
        → (x.next ≤ k → first_there (x.waiting k) (copy_of p k) ≡ o) → kept_at x p k ≡ o
    kept_by below from =
        by_cases (dec_lt k x.next)
        (λ l. kept_old l ∙ below l)
        (λ l. let up : x.next ≤ k = omega arith in kept_new up ∙ from up)

    -- A number of which the packet has no copy keeps what waits under it.
    pub kept_none : copy_of p k ≡ none → kept_at x p k ≡ x.waiting k
    kept_none e = kept_by (λ l. refl) (λ l. ap (first_there (x.waiting k)) e ∙ first_none (x.waiting k))

    -- A number that waits keeps its copy.
    pub kept_again : {m : Msg} → x.waiting k ≡ some m → kept_at x p k ≡ x.waiting k
    kept_again e = kept_by (λ l. refl) (λ l. ap (λ (o : Option Msg). first_there o (copy_of p k)) e ∙ sym e)

    -- Under test 10 a new copy may as well replace the one that waits.
    pub kept_either : Agrees x p → first_there (x.waiting k) (copy_of p k) ≡ first_there (copy_of p k) (x.waiting k)
    kept_either agrees = go (x.waiting k) (copy_of p k) (agrees k)
      where
        go : (o o' : Option Msg) → ((m m' : Msg) → o ≡ some m → o' ≡ some m' → m ≡ m') → first_there o o' ≡ first_there o' o
        go none none same = refl
        go none (some m') same = refl
        go (some m) none same = refl
        go (some m) (some m') same = ap {B = Option Msg} some (same m m' refl refl)

module _ {Msg Table : Type 0} (x : State Msg Table) where
  -- A heartbeat can raise end and does nothing else.
  pub keep-heartbeat : (n : ℕ) → keep x (heartbeat n) ≡ record { next = x.next; end = max x.end n; waiting = x.waiting; tables = x.tables }
  unfolding keep
  keep-heartbeat n = same_session refl (omega arith) waits refl
    where
      waits : (k : ℕ) → kept_at x (heartbeat n) k ≡ x.waiting k
      waits k = kept_none x (heartbeat n) k (copy_none (heartbeat n) k λ c. omega (arith, c.low, c.high))

  module _ (n : ℕ) (m : Msg) (ms : List Msg) where
    -- A packet may be kept message by message: its first, then the rest of it.
    pub keep-cons : keep x (packet n (m ∷ ms)) ≡ keep (keep x (single n m)) (packet (n + 1) ms)
    unfolding keep
    keep-cons = same_session refl (omega arith) waits refl
      where
        rest : Packet Msg
        rest = packet (n + 1) ms

        y : State Msg Table
        y = keep x (single n m)

        waits : (k : ℕ) → kept_at x (packet n (m ∷ ms)) k ≡ kept_at y rest k
        waits k =
            kept_by x (packet n (m ∷ ms)) k
            (λ l. sym (kept_old y rest k l ∙ kept_old x (single n m) k l))
            (λ up.
            ap (first_there (x.waiting k)) (copy_cons n m ms k)
            ∙ first_assoc (x.waiting k) (copy_of (single n m) k) (copy_of rest k)
            ∙ sym (kept_new y rest k up ∙ ap (λ (o : Option Msg). first_there o (copy_of rest k)) (kept_new x (single n m) k up)))

-- Tests that agree on the numbers looked at count the same.
count_agree : (f g : ℕ → Bool) (k c : ℕ) → ((j : ℕ) → k ≤ j → j < k + c → f j ≡ g j) → count_from f k c ≡ count_from g k c
unfolding count_from
count_agree f g k zero same = refl
count_agree f g k (suc c) same =
    (λ i. cond (same k (omega arith) (omega arith) i) 1 0 + count_agree f g (k + 1) c (λ j lo hi. same j (omega arith) (omega arith)) i)

none_of : (test : ℕ → Bool) (k c : ℕ) → ((j : ℕ) → k ≤ j → j < k + c → test j ≡ false) → count_from test k c ≡ 0
unfolding count_from
none_of test k zero fails = refl
none_of test k (suc c) fails =
    (λ i. cond (fails k (omega arith) (omega arith) i) 1 0 + none_of test (k + 1) c (λ j lo hi. fails j (omega arith) (omega arith)) i)

fresh_by_lem : {Msg Table : Type 0} (x : State Msg Table) (p : Packet Msg) (k : ℕ) {o o' : Option Msg} → x.waiting k ≡ o → kept_at x p k ≡ o' → fresh_at x p k ≡ (not (is_there o) && is_there o')
unfolding fresh_at keep
fresh_by_lem x p k e e' = λ i. not (is_there (e i)) && is_there (e' i)

module _ {Msg Table : Type 0} (x : State Msg Table) where
  never : (o : Option Msg) → (not (is_there o) && is_there o) ≡ false
  never none = refl
  never (some m) = refl

  one_by : (k : ℕ) (m : Msg) {b : Bool} → fresh_at x (single k m) k ≡ b → fresh_in x (single k m) ≡ cond b 1 0
  unfolding fresh_in count_from
  one_by k m {b} e = ap (λ (t : Bool). cond t 1 0 + 0) e ∙ go b
    where
      go : (t : Bool) → cond t 1 0 + 0 ≡ cond t 1 0
      go true = refl
      go false = refl

  -- One message: below next it is old; a copy that waits already is not fresh; any other is.
  pub fresh_old : (k : ℕ) (m : Msg) → k < x.next → fresh_in x (single k m) ≡ 0
  fresh_old k m lo = one_by k m (fresh_by_lem x (single k m) k refl (kept_old x (single k m) k lo) ∙ never (x.waiting k))

  pub fresh_again : (k : ℕ) (m : Msg) {c : Msg} → x.waiting k ≡ some c → fresh_in x (single k m) ≡ 0
  fresh_again k m e = one_by k m (fresh_by_lem x (single k m) k refl (kept_again x (single k m) k e) ∙ never (x.waiting k))

  pub fresh_new : (k : ℕ) (m : Msg) → x.next ≤ k → x.waiting k ≡ none → fresh_in x (single k m) ≡ 1
  fresh_new k m hi e =
      one_by k m
      (fresh_by_lem x (single k m) k e
      (kept_new x (single k m) k hi ∙ ap (λ (o : Option Msg). first_there o (copy_of (single k m) k)) e ∙ copy_head k m []))

  pub fresh_small : (k : ℕ) (m : Msg) → fresh_in x (single k m) ≤ 1
  fresh_small k m = go (fresh_at x (single k m) k) (one_by k m refl)
    where
      go : (b : Bool) → fresh_in x (single k m) ≡ cond b 1 0 → fresh_in x (single k m) ≤ 1
      go true e = omega arith
      go false e = omega arith

  -- A packet all of which is old has none.
  pub fresh_past : (p : Packet Msg) → end_of p ≤ x.next → fresh_in x p ≡ 0
  unfolding fresh_in
  fresh_past p old =
      none_of (fresh_at x p) p.first (length p.messages)
      (λ j lo hi. fresh_by_lem x p j refl (kept_old x p j (omega arith)) ∙ never (x.waiting j))

  pub fresh-none : (n : ℕ) → fresh_in x (packet n []) ≡ 0
  unfolding fresh_in count_from
  fresh-none n = refl

  -- The fresh numbers of a packet are its first, if it is fresh, and those of the rest of it behind that.
  pub fresh-cons : (n : ℕ) (m : Msg) (ms : List Msg)
      → fresh_in x (packet n (m ∷ ms)) ≡ fresh_in x (single n m) + fresh_in (keep x (single n m)) (packet (n + 1) ms)
  unfolding fresh_in count_from keep
  fresh-cons n m ms = (λ i. cond (first i) 1 0 + rest i) ∙ assoc (cond (fresh_at x (single n m) n) 1 0) (count_from (fresh_at y (packet (n + 1) ms)) (n + 1) (length ms))
    where
      y : State Msg Table
      y = keep x (single n m)

      assoc : (a b : ℕ) → a + b ≡ a + 0 + b
      assoc a b = omega arith

      split : (j : ℕ) → kept_at x (packet n (m ∷ ms)) j ≡ kept_at y (packet (n + 1) ms) j
      split j = ap (λ (z : State Msg Table). z.waiting j) (keep-cons x n m ms)

      unfolded : (j : ℕ) → ¬ (j ≡ n) → y.waiting j ≡ x.waiting j
      unfolded j ne = kept_none x (single n m) j (copy_other n m j ne)

      first : fresh_at x (packet n (m ∷ ms)) n ≡ fresh_at x (single n m) n
      first = fresh_by_lem x (packet n (m ∷ ms)) n refl (split n ∙ kept_none y (packet (n + 1) ms) n (copy_none (packet (n + 1) ms) n (λ c. omega (arith, c.low)))) ∙ sym (fresh_by_lem x (single n m) n refl refl)

      rest : count_from (fresh_at x (packet n (m ∷ ms))) (n + 1) (length ms) ≡ count_from (fresh_at y (packet (n + 1) ms)) (n + 1) (length ms)
      rest =
          count_agree (fresh_at x (packet n (m ∷ ms))) (fresh_at y (packet (n + 1) ms)) (n + 1) (length ms)
          (λ j lo hi. fresh_by_lem x (packet n (m ∷ ms)) j refl (split j) ∙ sym (fresh_by_lem y (packet (n + 1) ms) j (unfolded j (omega arith)) refl))
