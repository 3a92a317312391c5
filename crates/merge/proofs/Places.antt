-- The places of the window: no two of its numbers share one, and keeping and applying a message each change one place.
-- Assumes nothing.
use Prim.Native.Nat.{ℕ, suc, ◌+◌, ◌-◌, ◌*◌, ◌/◌, ◌%◌, ◌≤◌, ◌<◌}
use native.Mathlib.Nat.{mod-lt, mod-eq_of_lt, div-add-mod, mul-le-mul_left, add-mod_right, add-mod-mod, mul-add-mod_self_left}
use native.Mathlib.Decide.{dec_lt, ℕ_discrete}
use native.Mathlib.Omega.{arith}
use mathlib.Core.Path.{◌≡◌, refl, sym, ap, ap₂, ◌∙◌}
use mathlib.Core.Bool.{Bool, ◌&&◌}
use mathlib.Core.List.{[]}
use mathlib.Core.Logic.{by_cases}
use mathlib.Core.Option.{Option, none, some}
use borrow.Author.Tests.{le-leb, lt-leb, lt-ltb, le-ltb}
use lib.Dec.{ltb}
use Rattle.merge.specs.State.{Feed, Packet, State, first_there, single, keep, kept_at, freed_at, step}
use Rattle.merge.specs.Places.{number_at, waiting_in, Put, InPlaces}
use Rattle.merge.specs.Promise.{Agrees}
use Rattle.merge.proofs.Copies.{chosen, copy_head, copy_other}
use Rattle.merge.proofs.Clauses.{agree, kept_new, kept_none, kept_either, freed_next, freed_other}

-- Two numbers with one place, the second less than W above where the first may stand: it is not the larger.
no_larger : (W n k j : ℕ) → n ≤ k → j < n + W → k % W ≡ j % W → j ≤ k
no_larger W n k j lo hi e =
    by_cases (dec_lt (k / W) (j / W))
    (λ l. absurd (omega (arith, div-add-mod k W, div-add-mod j W, mul-le-mul_left W l)))
    (λ l. let le : j / W ≤ k / W = omega arith in omega (arith, div-add-mod k W, div-add-mod j W, mul-le-mul_left W le))

-- No two numbers of one window share a place.
pub place_unique : (W next k j : ℕ) → next ≤ k → k < next + W → next ≤ j → j < next + W → k % W ≡ j % W → k ≡ j
place_unique W next k j lo hi lo' hi' e = omega (arith, no_larger W next k j lo hi' e, no_larger W next j k lo' hi (sym e))

-- Each place belongs to a number of the window.
module _ (W next i : ℕ) (there : i < W) where
  pub number_low : next ≤ number_at W next i
  unfolding number_at
  number_low = omega arith

  pub number_high : number_at W next i < next + W
  unfolding number_at
  number_high = omega (arith, mod-lt (i + (W - next % W)) {m = W} (omega arith))

  pub number_place : number_at W next i % W ≡ i
  unfolding number_at
  number_place =
      let rest : next % W < W = mod-lt next (omega arith) in
      let whole : next + (i + (W - next % W)) ≡ W * suc (next / W) + i = omega (arith, div-add-mod next W) in
      add-mod-mod next (i + (W - next % W)) W
      ∙ ap (λ (n : ℕ). n % W) whole
      ∙ mul-add-mod_self_left W (suc (next / W)) i
      ∙ mod-eq_of_lt there

-- Where number k stands to the window.
data Window (W next k : ℕ) : Type 0 where
  below : k < next → Window W next k
  inside : next ≤ k → k < next + W → Window W next k
  above : next + W ≤ k → Window W next k

window : (W next k : ℕ) → Window W next k
window W next k =
    by_cases (dec_lt k next) below λ n. by_cases (dec_lt k (next + W)) (inside (omega arith)) (λ n'. above (omega arith))

module _ {Msg : Type 0} (W : ℕ) (place : ℕ → Option Msg) (next k : ℕ) where
  pub waiting_inside : next ≤ k → k < next + W → waiting_in W place next k ≡ place (k % W)
  unfolding waiting_in
  waiting_inside lo hi = chosen _ _ (ap₂ ◌&&◌ (le-leb next k lo) (lt-ltb k (next + W) hi))

  pub waiting_below : k < next → waiting_in W place next k ≡ none
  unfolding waiting_in
  waiting_below lo = chosen _ _ (ap (λ (t : Bool). t && ltb k (next + W)) (lt-leb next k lo))

  pub waiting_above : next + W ≤ k → waiting_in W place next k ≡ none
  unfolding waiting_in
  waiting_above hi = chosen _ _ (ap₂ ◌&&◌ (le-leb next k (omega arith)) (le-ltb k (next + W) hi))

-- The place of number k rewritten.
module _ {Msg : Type 0} {W : ℕ} {before after : ℕ → Option Msg} {k : ℕ} {content : Option Msg} (put : Put W before after (k % W) content) where
  -- A number that shares the window with k has its own place, which stays.
  put_apart : (next j : ℕ) → next ≤ k → k < next + W → next ≤ j → j < next + W → ¬ (j ≡ k) → after (j % W) ≡ before (j % W)
  put_apart next j lo hi lo' hi' ne =
      put.others (j % W) (mod-lt j (omega arith)) (λ e. ne (place_unique W next j k lo' hi' lo hi e))

  put_same : (next : ℕ) → next ≤ k → k < next + W → waiting_in W after next k ≡ content
  put_same next lo hi = waiting_inside W after next k lo hi ∙ put.there

  put_other : (next j : ℕ) → next ≤ k → k < next + W → ¬ (j ≡ k) → waiting_in W after next j ≡ waiting_in W before next j
  put_other next j lo hi ne = go (window W next j)
    where
      go : Window W next j → waiting_in W after next j ≡ waiting_in W before next j
      go (below l) = waiting_below W after next j l ∙ sym (waiting_below W before next j l)
      go (inside lo' hi') =
          waiting_inside W after next j lo' hi'
          ∙ put_apart next j lo hi lo' hi' ne
          ∙ sym (waiting_inside W before next j lo' hi')
      go (above l) = waiting_above W after next j l ∙ sym (waiting_above W before next j l)

  -- With the place free and the window moved past k, all other numbers keep what waits under them: the number that is new in the window has the free place.
  free_other : content ≡ none → (j : ℕ) → ¬ (j ≡ k) → waiting_in W after (k + 1) j ≡ waiting_in W before k j
  free_other free j ne = go (window W k j)
    where
      go : Window W k j → waiting_in W after (k + 1) j ≡ waiting_in W before k j
      go (below l) = waiting_below W after (k + 1) j (omega arith) ∙ sym (waiting_below W before k j l)
      go (inside lo hi) =
          waiting_inside W after (k + 1) j (omega arith) (omega arith)
          ∙ put_apart k j (omega arith) (omega arith) lo hi ne
          ∙ sym (waiting_inside W before k j lo hi)
      go (above l) =
          by_cases (ℕ_discrete j (k + W))
          (λ e.
          waiting_inside W after (k + 1) j (omega arith) (omega arith)
          ∙ ap (λ (n : ℕ). after (n % W)) e
          ∙ ap after (add-mod_right k W)
          ∙ put.there
          ∙ free)
          (λ n. waiting_above W after (k + 1) j (omega arith))
          ∙ sym (waiting_above W before k j l)

module _ {Msg Table : Type 0} {W : ℕ} {place : ℕ → Option Msg} {x : State Msg Table} (held : InPlaces W place x) where
  -- What waits under a number of the window stands at its place, and a place holds what waits under its number.
  pub held_at : (k : ℕ) → x.next ≤ k → k < x.next + W → x.waiting k ≡ place (k % W)
  held_at k lo hi = held.holds k ∙ waiting_inside W place x.next k lo hi

  pub held_place : (i : ℕ) → i < W → place i ≡ x.waiting (number_at W x.next i)
  held_place i lo =
      let k = number_at W x.next i in
      sym (held_at k (number_low W x.next i lo) (number_high W x.next i lo) ∙ ap place (number_place W x.next i lo))

  -- Keeping message m under number k of the window is storing it at the place of k. Under test 10 it replaces nothing but its equal.
  pub keep_put : {after : ℕ → Option Msg} (k : ℕ) (m : Msg) → x.next ≤ k → k < x.next + W → Agrees x (single k m)
      → Put W place after (k % W) (some m) → InPlaces W after (keep x (single k m))
  unfolding keep
  keep_put {after} k m lo hi agrees put =
      let p : Packet Msg = single k m in
      record {
        holds =
            agree (kept_at x p) (waiting_in W after x.next) k
            (kept_new x p k lo
            ∙ kept_either x p k agrees
            ∙ ap (λ (o : Option Msg). first_there o (x.waiting k)) (copy_head k m [])
            ∙ sym (put_same put x.next lo hi))
            (λ j ne. kept_none x p j (copy_other k m j ne) ∙ held.holds j ∙ sym (put_other put x.next j lo hi ne));
      }

  -- A step of applying clears the place of next, and no other place moves with the window.
  pub step_put : {after : ℕ → Option Msg} (feed : Feed Msg Table) (m : Msg) → Put W place after (x.next % W) none
      → InPlaces W after (step feed x (some m))
  unfolding step
  step_put {after} feed m put =
      record {
        holds =
            agree (freed_at x) (waiting_in W after (x.next + 1)) x.next
            (freed_next x ∙ sym (waiting_below W after (x.next + 1) x.next (omega arith)))
            (λ j ne. freed_other x j ne ∙ held.holds j ∙ sym (free_other put refl j ne));
      }
