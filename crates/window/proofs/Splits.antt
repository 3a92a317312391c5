-- The runs, taken one at a time from the front.
-- Assumes nothing.
use mathlib.Core.Path.{◌≡◌, refl, ap, ◌∙◌, sym}
use mathlib.Core.Bool.{Bool, true, false, not}
use mathlib.Core.List.{List, [], ◌∷◌, ◌++◌, append-nil}
use Prim.Native.Nat.{ℕ, zero, suc, ◌+◌, ◌-◌, ◌≤◌, ◌<◌}
use native.Mathlib.Omega.{arith}
use borrow.Author.Tests.{ltb-true, ltb-false}
use lib.Dec.{ltb}
use Rattle.window.specs.Runs.{closed, first_from, run_from, runs_from, IsRun}
use Rattle.window.specs.declared.missing.Gap.{Gap}
use Rattle.window.proofs.FirstNumber.{Between, first_between}

first_hit : (test : ℕ → Bool) (k n : ℕ) → test k ≡ true → first_from test k (suc n) ≡ k
unfolding first_from
first_hit test k n h = simp h

first_miss : (test : ℕ → Bool) (k n : ℕ) → test k ≡ false → first_from test k (suc n) ≡ first_from test (k + 1) n
unfolding first_from
first_miss test k n h = simp h

module _ (missing : ℕ → Bool) where
  there : ℕ → Bool
  there j = not (missing j)

  there_is : (k : ℕ) (b : Bool) → missing k ≡ b → there k ≡ not b
  unfolding there
  there_is k b h = ap not h

  gone : (k n c : ℕ) → missing k ≡ true → runs_from missing k (suc n) c ≡ runs_from missing (k + 1) n (c + 1)
  unfolding runs_from
  gone k n c h = simp h

  here : (k n c : ℕ) → missing k ≡ false → runs_from missing k (suc n) c ≡ closed k c ++ runs_from missing (k + 1) n 0
  unfolding runs_from
  here k n c h = simp h

  -- the runs from x on, up to a limit
  unfoldable pub up_to : ℕ → ℕ → List (ℕ × ℕ)
  up_to limit x = runs_from missing x (limit - x) 0

  -- numbers that are not missing are passed
  skip_step : (k n : ℕ) (b : Bool) → missing k ≡ b → runs_from missing (k + 1) n 0 ≡ up_to (k + 1 + n) (first_from missing (k + 1) n) → runs_from missing k (suc n) 0 ≡ up_to (k + suc n) (first_from missing k (suc n))
  unfolding up_to
  skip_step k n true h ih =
      let e : k + suc n - k ≡ suc n = omega arith in
      rw (first_hit missing k n h, e)
  skip_step k n false h ih =
      let e : k + suc n ≡ k + 1 + n = omega arith in
      rw (first_miss missing k n h, e) (here k n 0 h ∙ ih)

  skipped : (k n : ℕ) → runs_from missing k n 0 ≡ up_to (k + n) (first_from missing k n)
  unfolding up_to first_from
  skipped k zero =
      let e : k + 0 - k ≡ 0 = omega arith in
      rw e
  skipped k (suc n) = skip_step k n (missing k) refl (skipped (k + 1) n)

  -- a run that has begun ends where the next number is that is not missing
  abbrev ends : (k n c : ℕ) → Type 0
  ends k n c = runs_from missing k n c ≡ closed (first_from there k n) (c + (first_from there k n - k)) ++ up_to (k + n) (first_from there k n)

  end_step : (k n c : ℕ) (b : Bool) → missing k ≡ b → ends (k + 1) n (c + 1) → ends k (suc n) c
  unfolding up_to
  end_step k n c true h ih =
      let stop = first_from there (k + 1) n in
      let low : k + 1 ≤ stop = (first_between there (k + 1) n).least in
      let e : k + suc n ≡ k + 1 + n = omega arith in
      let f : c + (stop - k) ≡ c + 1 + (stop - (k + 1)) = omega arith in
      rw (first_miss there k n (there_is k true h), e, f) (gone k n c h ∙ ih)
  end_step k n c false h ih =
      let e : k + suc n - k ≡ suc n = omega arith in
      let f : c + (k - k) ≡ c = omega arith in
      rw (first_hit there k n (there_is k false h), e, f, here k n 0 h) (here k n c h)

  ended : (k n c : ℕ) → ends k n c
  unfolding up_to first_from runs_from
  ended k zero c =
      let e : k + 0 - k ≡ 0 = omega arith in
      let f : c + (k - k) ≡ c = omega arith in
      rw (e, f) (sym (append-nil (closed k c)))
  ended k (suc n) c = end_step k n c (missing k) refl (ended (k + 1) n (c + 1))

found_step : (test : ℕ → Bool) (k n : ℕ) (b : Bool) → test k ≡ b → (first_from test (k + 1) n < k + 1 + n → test (first_from test (k + 1) n) ≡ true) → first_from test k (suc n) < k + suc n → test (first_from test k (suc n)) ≡ true
found_step test k n true h ih low = rw (first_hit test k n h) h
found_step test k n false h ih low =
    let e : first_from test k (suc n) ≡ first_from test (k + 1) n = first_miss test k n h in
    rw e (ih (omega arith))

first_found : (test : ℕ → Bool) (k n : ℕ) → first_from test k n < k + n → test (first_from test k n) ≡ true
unfolding first_from
first_found test k zero low = absurd (omega arith)
first_found test k (suc n) low = found_step test k n (test k) refl (first_found test (k + 1) n) low

-- where the first run begins within reach, it has a number
run_some : (missing : ℕ → Bool) (k n : ℕ) → 0 < n → missing k ≡ true → k < first_from (there missing) k n
run_some missing k zero some h = absurd (omega arith)
run_some missing k (suc n) some h =
    rw (first_miss (there missing) k n (there_is missing k true h)) (omega (arith, (first_between (there missing) (k + 1) n).least))

closed_run : (stop start : ℕ) → start < stop → closed stop (0 + (stop - start)) ≡ (start, stop - start) ∷ []
closed_run stop start h = go (stop - start) refl (omega arith)
  where
    go : (c : ℕ) → stop - start ≡ c → 0 < c → closed stop (0 + c) ≡ (start, c) ∷ []
    go zero e some = absurd (omega arith)
    go (suc c) e some =
        let f : 0 + suc c ≡ suc c = omega arith in
        let g : stop - suc c ≡ start = omega arith in
        rw (f, g)

-- the first run, and the runs behind it
module _ (missing : ℕ → Bool) (k n : ℕ) where
  start : ℕ
  start = first_from missing k n

  stop : ℕ
  stop = first_from (there missing) start (k + n - start)

  start_within : Between k (k + n) start
  unfolding start
  start_within = first_between missing k n

  stop_within : Between start (k + n) stop
  unfolding stop
  stop_within =
      let low : Between k (k + n) start = start_within in
      let b : Between start (start + (k + n - start)) (first_from (there missing) start (k + n - start)) = first_between (there missing) start (k + n - start) in
      record { least = b.least; most = omega arith }

  some_run : start < k + n → start < stop
  unfolding stop start
  some_run h = run_some missing start (k + n - start) (omega arith) (hit h)
    where
      hit : start < k + n → missing start ≡ true
      hit = first_found missing k n

  run_is : run_from missing k n ≡ (start, stop - start)
  unfolding run_from start stop there
  run_is = refl

  from_start : runs_from missing k n 0 ≡ up_to missing (k + n) start
  unfolding start
  from_start = skipped missing k n

  nothing : k + n ≤ start → up_to missing (k + n) start ≡ []
  unfolding up_to runs_from
  nothing h =
      let e : k + n - start ≡ 0 = omega arith in
      rw e

  count-is : (run_from missing k n).1 ≡ stop - start
  count-is = ap (λ (run : ℕ × ℕ). run.1) run_is

  pub no_run : (run_from missing k n).1 ≡ 0 → runs_from missing k n 0 ≡ []
  no_run h = go (ltb start (k + n)) refl
    where
      go : (b : Bool) → ltb start (k + n) ≡ b → runs_from missing k n 0 ≡ []
      go true e =
          let low : start < stop = some_run (ltb-true start (k + n) e) in
          absurd (omega (arith, count-is))
      go false e = from_start ∙ nothing (ltb-false start (k + n) e)

  at_start_lem : up_to missing (k + n) start ≡ closed stop (0 + (stop - start)) ++ up_to missing (start + (k + n - start)) stop
  unfolding up_to stop
  at_start_lem = ended missing start (k + n - start) 0

  whole : start < stop → up_to missing (k + n) start ≡ (start, stop - start) ∷ up_to missing (k + n) stop
  whole h =
      let e : start + (k + n - start) ≡ k + n = omega (arith, start_within.most) in
      at_start_lem
      ∙ ap (λ (runs : List (ℕ × ℕ)). runs ++ up_to missing (start + (k + n - start)) stop) (closed_run stop start h)
      ∙ ap (λ (limit : ℕ). (start, stop - start) ∷ up_to missing limit stop) e

  more : ((run_from missing k n).1 ≡ 0 → ⊥) → start < stop
  more h = go (ltb start stop) refl
    where
      go : (b : Bool) → ltb start stop ≡ b → start < stop
      go true e = ltb-true start stop e
      go false e =
          let low : stop ≤ start = ltb-false start stop e in
          absurd (h (count-is ∙ omega arith))

  pub one_run : ((run_from missing k n).1 ≡ 0 → ⊥) → runs_from missing k n 0 ≡ run_from missing k n ∷ up_to missing (k + n) ((run_from missing k n).0 + (run_from missing k n).1)
  one_run h =
      let low : start < stop = more h in
      let e : start + (stop - start) ≡ stop = omega arith in
      rw (run_is, e) (from_start ∙ whole low)

-- the runs from a number on, by the first of them
module _ {missing : ℕ → Bool} {at limit : ℕ} {gap : Gap} (run : IsRun missing at limit gap) (within : at ≤ limit) where
  reaches : at + (limit - at) ≡ limit
  reaches = omega arith

  pub gap_none : gap.count ≡ 0 → up_to missing limit at ≡ []
  unfolding up_to
  gap_none h = no_run missing at (limit - at) (sym run.count ∙ h)

  first : up_to missing limit at ≡ runs_from missing at (limit - at) 0
  unfolding up_to
  first = refl

  pub gap_some : (gap.count ≡ 0 → ⊥) → up_to missing limit at ≡ (gap.start, gap.count) ∷ up_to missing limit (gap.start + gap.count)
  gap_some h =
      first
      ∙ one_run missing at (limit - at) (λ e. h (run.count ∙ e))
      ∙ rw (reaches, ← run.start, ← run.count)
