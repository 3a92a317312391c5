-- What waits and the window that holds it: each gives the other, and a message kept changes one place.
-- Assumes nothing.
use mathlib.Core.Path.{◌≡◌, refl, ap, ◌∙◌, sym, fun_ext}
use mathlib.Core.Bool.{cond, ◌&&◌}
use mathlib.Core.List.{List}
use mathlib.Core.Logic.{by_cases}
use mathlib.Core.Option.{Option, none, some, none-ne-some}
use Prim.Native.Nat.{ℕ, ◌+◌, ◌%◌, ◌≤◌, ◌<◌}
use native.Mathlib.Nat.{mod-lt}
use native.Mathlib.Decide.{dec_lt, ℕ_discrete}
use native.Mathlib.Omega.{arith}
use borrow.Author.Tests.{eq-eqb, ne_eqb}
use lib.Dec.{leb, ltb}
use lib.ListN.{length}
use Rattle.wire.specs.Number.{part, splice}
use Rattle.merge.specs.State.{State, single, keep, kept_at, fresh_in}
use Rattle.merge.specs.Places.{InPlaces, number_at, waiting_in}
use Rattle.merge.specs.Promise.{Agrees}
use Rattle.merge.proofs.Clauses.{fresh_again, fresh_new, fresh_old, kept_again, kept_none, kept_old}
use Rattle.merge.proofs.Copies.{copy_other}
use Rattle.merge.proofs.Places.{held_place, keep_put, number_high, number_low, number_place, place_unique, waiting_above, waiting_below, waiting_inside}
use Rattle.window.specs.Window.{size_at, start_of, waits_at, window_of}
use Rattle.window.proofs.Held.{Framed as Sized, Fine, keep_window, length_window, same-places, waits_window, with, with_other, with_same}
use Rattle.message.specs.Whole.{Whole}
use Rattle.window_taking.specs.Keeping.{waiting_of, window_for, state_of, Neat}

pub same_window : (one other : ℕ → Option (List ℕ)) → ((i : ℕ) → i < 256 → one i ≡ other i) → window_of one ≡ window_of other
unfolding window_of
same_window one other h = same-places one other 0 256 (λ k low high. h k (omega arith))

-- a place by its size
pub place_free : (w : List ℕ) (i : ℕ) → size_at w i ≡ 0 → waits_at w i ≡ none
unfolding waits_at
place_free w i e = simp (eq-eqb (size_at w i) 0 e)

pub place_used : (w : List ℕ) (i : ℕ) → (size_at w i ≡ 0 → ⊥) → waits_at w i ≡ some (part w (start_of i) (size_at w i))
unfolding waits_at
place_used w i h = simp (ne_eqb (size_at w i) 0 h)

-- all that waits is whole and within the window
pub record Within (waiting : ℕ → Option (List ℕ)) (next : ℕ) : Type 0 where
  pub low : (k : ℕ) → k < next → waiting k ≡ none
  pub high : (k : ℕ) → next + 256 ≤ k → waiting k ≡ none
  pub whole : (k : ℕ) (m : List ℕ) → waiting k ≡ some m → Whole m

sized : {m : List ℕ} → Whole m → Sized m
sized w = record { least = w.least; most = w.most; told = w.told }

fine_by : (o : Option (List ℕ)) → ((m : List ℕ) → o ≡ some m → Whole m) → Fine o
fine_by none h = tt
fine_by (some m) h = sized (h m refl)

in_window : (one other : ℕ → Option (List ℕ)) (next k : ℕ) → ((i : ℕ) → i < 256 → one i ≡ other i) → waiting_in 256 one next k ≡ waiting_in 256 other next k
unfolding waiting_in
in_window one other next k h = ap (λ (o : Option (List ℕ)). cond (leb next k && ltb k (next + 256)) o none) (h (k % 256) (mod-lt k {m = 256} (omega arith)))

module _ {waiting : ℕ → Option (List ℕ)} {next : ℕ} (within : Within waiting next) where
  abbrev pub placed : ℕ → Option (List ℕ)
  placed i = waiting (number_at 256 next i)

  pub fine : (i : ℕ) → Fine (placed i)
  fine i = fine_by (placed i) (λ m e. within.whole (number_at 256 next i) m e)

  pub in_places : (k : ℕ) → waiting k ≡ waiting_in 256 placed next k
  in_places k =
      by_cases (dec_lt k next)
      (λ l. within.low k l ∙ sym (waiting_below 256 placed next k l))
      (λ l.
      by_cases (dec_lt k (next + 256))
      (λ h.
      let i : k % 256 < 256 = mod-lt k {m = 256} (omega arith) in
      let e : k ≡ number_at 256 next (k % 256) =
      place_unique 256 next k (number_at 256 next (k % 256)) (omega arith) h (number_low 256 next (k % 256) i) (number_high 256 next (k % 256) i) (sym (number_place 256 next (k % 256) i)) in
      ap waiting e ∙ sym (waiting_inside 256 placed next k (omega arith) h))
      (λ h. within.high k (omega arith) ∙ sym (waiting_above 256 placed next k (omega arith))))

  -- the window for what waits holds that
  pub waiting_for : waiting_of (window_for waiting next) next ≡ waiting
  unfolding waiting_of window_for
  waiting_for = fun_ext (λ k. in_window (waits_at (window_of placed)) placed next k (λ i h. waits_window placed fine i h) ∙ sym (in_places k))

  pub window_size : length (window_for waiting next) ≡ 32768
  unfolding window_for
  window_size = length_window placed fine

  pub neat_for : next ≤ 4294967296 → Neat (window_for waiting next) next
  neat_for top =
      record {
        same = ap (λ (f : ℕ → Option (List ℕ)). window_for f next) (sym waiting_for);
        whole = λ k m e. within.whole k m (ap (λ (f : ℕ → Option (List ℕ)). f k) (sym waiting_for) ∙ e);
        size = window_size;
        top = top;
      }

pub within_neat : {w : List ℕ} {next : ℕ} → Neat w next → Within (waiting_of w next) next
unfolding waiting_of
within_neat {w} {next} neat =
    record {
      low = λ k l. waiting_below 256 (waits_at w) next k l;
      high = λ k l. waiting_above 256 (waits_at w) next k l;
      whole = neat.whole;
    }

pub waits_place : (w : List ℕ) (next k : ℕ) → next ≤ k → k < next + 256 → waiting_of w next k ≡ waits_at w (k % 256)
unfolding waiting_of
waits_place w next k lo hi = waiting_inside 256 (waits_at w) next k lo hi

-- one message kept
module _ {w m : List ℕ} {next k : ℕ} (neat : Neat w next) (sound : Whole m) (near : k < next + 256) where
  abbrev x : State (List ℕ) (Unit {0})
  x = state_of w next next

  unchanged : ((j : ℕ) → kept_at x (single k m) j ≡ x.waiting j) → w ≡ window_for (keep x (single k m)).waiting next
  unfolding keep
  unchanged same = neat.same ∙ ap (λ (f : ℕ → Option (List ℕ)). window_for f next) (sym (fun_ext same))

  pub count_old : k < next → 0 ≡ fresh_in x (single k m)
  count_old below = sym (fresh_old x k m below)

  pub passed_over : k < next → w ≡ window_for (keep x (single k m)).waiting next
  passed_over below =
      unchanged (λ j. by_cases (dec_lt j next) (λ l. kept_old x (single k m) j l) (λ l. kept_none x (single k m) j (copy_other k m j (λ e. omega arith))))

  module _ (from : next ≤ k) where
    pub count_again : (size_at w (k % 256) ≡ 0 → ⊥) → 0 ≡ fresh_in x (single k m)
    count_again used = sym (fresh_again x k m (waits_place w next k from near ∙ place_used w (k % 256) used))

    pub count_new : size_at w (k % 256) ≡ 0 → 1 ≡ fresh_in x (single k m)
    count_new free = sym (fresh_new x k m from (waits_place w next k from near ∙ place_free w (k % 256) free))

    pub stays : (size_at w (k % 256) ≡ 0 → ⊥) → w ≡ window_for (keep x (single k m)).waiting next
    stays used =
        unchanged
        (λ j.
        by_cases (ℕ_discrete j k)
        (λ e. kept_again x (single k m) j (ap (waiting_of w next) e ∙ waits_place w next k from near ∙ place_used w (k % 256) used))
        (λ ne. kept_none x (single k m) j (copy_other k m j ne)))

    pub put : {after : List ℕ} → size_at w (k % 256) ≡ 0 → after ≡ splice w (start_of (k % 256)) m → after ≡ window_for (keep x (single k m)).waiting next
    unfolding window_for keep
    put {after} free is =
        let within : Within (waiting_of w next) next = within_neat neat in
        let i : k % 256 < 256 = mod-lt k {m = 256} (omega arith) in
        let place : ℕ → Option (List ℕ) = placed within in
        let held : InPlaces 256 place x = record { holds = in_places within } in
        let nothing : waiting_of w next k ≡ none = waits_place w next k from near ∙ place_free w (k % 256) free in
        let empty : place (k % 256) ≡ none =
        ap (waiting_of w next) (sym (place_unique 256 next k (number_at 256 next (k % 256)) from near (number_low 256 next (k % 256) i) (number_high 256 next (k % 256) i) (sym (number_place 256 next (k % 256) i)))) ∙ nothing in
        let agrees : Agrees x (single k m) =
        λ j a b e f.
        absurd
        (by_cases (ℕ_discrete j k)
        (λ q. none-ne-some _ (sym (ap (waiting_of w next) q ∙ nothing) ∙ e))
        (λ ne. none-ne-some _ (sym (copy_other k m j ne) ∙ f))) in
        let after-put : InPlaces 256 (with place (k % 256) (some m)) (keep x (single k m)) =
        keep_put held k m from near agrees (record { there = with_same place (k % 256) (some m); others = λ j lo ne. with_other place (k % 256) (some m) j ne }) in
        is
        ∙ ap (λ (l : List ℕ). splice l (start_of (k % 256)) m) neat.same
        ∙ keep_window place (fine within) (k % 256) i m empty (sized sound)
        ∙ same_window (with place (k % 256) (some m)) (λ j. kept_at x (single k m) (number_at 256 next j)) (λ j h. held_place after-put j h)
