-- The requests, written one behind the other: what is left to write, from where the writing is, gives the whole buffer.
-- Assumes nothing.
use Rattle.std.proofs.Common.{Err, Ok}
use mathlib.Core.Path.{◌≡◌, refl, ap, ◌∙◌, sym, subst}
use mathlib.Core.List.{List, [], ◌∷◌}
use Prim.Native.Nat.{ℕ, ◌+◌, ◌-◌, ◌*◌, ◌≤◌, ◌<◌}
use native.Mathlib.Omega.{arith}
use borrow.Author.Tests.{lt-ltb, le-ltb}
use lib.ListN.{length}
use Rattle.wire.specs.Layout.{encode, put_row}
use Rattle.wire.specs.Number.{splice}
use Rattle.wire.proofs.Place.{length-splice, splice_next, splice-none}
use Rattle.window.specs.Runs.{asked_of, buffer_after, gaps_of, layout, limit_of, missing_in, request_row, requests_of, runs_from, runs_of, IsCount, IsRun, Room}
use Rattle.refusals.specs.declared.Refusal.TheVariants.{NoRoom}
use Rattle.window.specs.declared.missing.Gap.{Gap}
use Rattle.window.proofs.Splits.{gap_none, gap_some, up_to}

pub record Going (window : List ℕ) (from limit : ℕ) (whole buf : List ℕ) (next at : ℕ) : Type 0 where
  pub least : from ≤ next
  pub most : next ≤ limit
  pub same : length buf ≡ length whole
  pub room : at + 12 * length (up_to (missing_in window) limit next) ≤ length buf
  pub rest : splice whole 0 (requests_of (runs_of (missing_in window) from (limit - from))) ≡ splice buf at (requests_of (up_to (missing_in window) limit next))

pub going_start : (window : List ℕ) (from limit : ℕ) (buf : List ℕ) → Room window from limit (length buf) → Going window from limit buf buf from 0
unfolding up_to
going_start window from limit buf r =
    record { least = omega arith; most = r.order; same = refl; room = omega (arith, r.room); rest = refl }

empty : (buf : List ℕ) (at : ℕ) → splice buf at (requests_of []) ≡ buf
unfolding requests_of
empty buf at = splice-none buf at

put_one : (buf : List ℕ) (at start count : ℕ) (more : List (ℕ × ℕ)) → at ≤ length buf → splice buf at (requests_of ((start, count) ∷ more)) ≡ splice (put_row layout (request_row start count) buf at) (at + 12) (requests_of more)
unfolding requests_of put_row
put_one buf at start count more h = sym (splice_next buf at (encode layout (request_row start count)) (requests_of more) h)

put_length : (buf : List ℕ) (at start count : ℕ) → at + 12 ≤ length buf → length (put_row layout (request_row start count) buf at) ≡ length buf
unfolding put_row
put_length buf at start count h = length-splice buf at (encode layout (request_row start count)) h

module _ {window : List ℕ} {from limit : ℕ} {whole buf : List ℕ} {next at : ℕ} {gap : Gap} (g : Going window from limit whole buf next at) (run : IsRun (missing_in window) next limit gap) where
  pub going_none : gap.count ≡ 0 → buf ≡ splice whole 0 (requests_of (runs_of (missing_in window) from (limit - from)))
  going_none h = sym (g.rest ∙ ap (λ (runs : List (ℕ × ℕ)). splice buf at (requests_of runs)) (gap_none run g.most h) ∙ empty buf at)

  module _ (some : gap.count ≡ 0 → ⊥) where
    runs : up_to (missing_in window) limit next ≡ (gap.start, gap.count) ∷ up_to (missing_in window) limit (gap.start + gap.count)
    runs = gap_some run g.most some

    pub going_room : at + 12 ≤ length buf
    going_room = omega (arith, ap length runs, g.room)

    pub going_some : {after : List ℕ} → after ≡ put_row layout (request_row gap.start gap.count) buf at → Going window from limit whole after (gap.start + gap.count) (at + 12)
    going_some {after} e =
        let long : length after ≡ length buf = ap length e ∙ put_length buf at gap.start gap.count going_room in
        record {
          least = omega (arith, g.least, run.least);
          most = run.most;
          same = long ∙ g.same;
          room = omega (arith, ap length runs, g.room);
          rest =
              g.rest
              ∙ ap (λ (l : List (ℕ × ℕ)). splice buf at (requests_of l)) runs
              ∙ put_one buf at gap.start gap.count (up_to (missing_in window) limit (gap.start + gap.count)) (omega (arith, going_room))
              ∙ ap (λ (l : List ℕ). splice l (at + 12) (requests_of (up_to (missing_in window) limit (gap.start + gap.count)))) (sym e);
        }

-- the answer, by the count of all runs
module _ (window : List ℕ) (next end : ℕ) (buf : List ℕ) {limit r : ℕ} (told : limit ≡ limit_of next end) (count : IsCount (missing_in window) next limit r) where
  all : r ≡ length (gaps_of window next end)
  all = count.is ∙ ap (λ (l : ℕ). length (runs_of (missing_in window) next (l - next))) told

  few : length buf < 12 * r → Err NoRoom ≡ asked_of (gaps_of window next end) (length buf)
  unfolding asked_of
  few h = simp (lt-ltb (length buf) (12 * length (gaps_of window next end)) (subst (λ (k : ℕ). length buf < 12 * k) all h))

  enough : 12 * r ≤ length buf → Ok r ≡ asked_of (gaps_of window next end) (length buf)
  unfolding asked_of
  enough h =
      simp (le-ltb (length buf) (12 * length (gaps_of window next end)) (subst (λ (k : ℕ). 12 * k ≤ length buf) all h)) (ap Ok all)

  pub asked_few : length buf < 12 * r → (Err NoRoom ≡ asked_of (gaps_of window next end) (length buf)) × (buf ≡ buffer_after (gaps_of window next end) buf)
  unfolding buffer_after
  asked_few h = (few h, rw (← few h))

  pub asked_all : {after : List ℕ} → 12 * r ≤ length buf → after ≡ splice buf 0 (requests_of (runs_of (missing_in window) next (limit - next))) → (Ok r ≡ asked_of (gaps_of window next end) (length buf)) × (after ≡ buffer_after (gaps_of window next end) buf)
  unfolding buffer_after
  asked_all h e =
      (enough h, rw (← enough h) (e ∙ ap (λ (l : ℕ). splice buf 0 (requests_of (runs_of (missing_in window) next (l - next)))) told))

-- nothing is known beyond next, so nothing is missing
module _ (window : List ℕ) {next end : ℕ} (buf : List ℕ) (level : end ≡ next) where
  none : gaps_of window next end ≡ []
  unfolding runs_from
  none =
      let left : limit_of next end - next ≡ 0 = omega arith in
      ap (runs_of (missing_in window) next) left

  count_none : Ok 0 ≡ asked_of [] (length buf)
  unfolding asked_of
  count_none = simp (le-ltb (length buf) 0 (omega arith))

  pub asked_none : (Ok 0 ≡ asked_of (gaps_of window next end) (length buf)) × (buf ≡ buffer_after (gaps_of window next end) buf)
  unfolding buffer_after requests_of
  asked_none = rw none (count_none, rw (← count_none) (sym (splice-none buf 0)))
