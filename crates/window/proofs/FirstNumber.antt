-- Looking along numbers, from where the look is; and the runs by where each begins and ends.
-- Assumes nothing.
use mathlib.Core.Path.{◌≡◌, refl, ap, ◌∙◌, sym}
use mathlib.Core.Bool.{Bool, beq, true, false, not, cond}
use mathlib.Core.List.{List}
use Rattle.std.specs.Prelude.{MatchOption, Option, None, Some}
use Rattle.std.specs.Option.{unwrap_or}
use Prim.Native.Nat.{ℕ, zero, suc, ◌+◌, ◌-◌, ◌≤◌, ◌<◌}
use mathlib.Core.Logic.{by_cases}
use native.Mathlib.Decide.{ℕ_discrete}
use native.Mathlib.Omega.{arith}
use Rattle.window.specs.Runs.{first_from, missing_in, missing_is, run_from, IsFirst, IsRun}
use Rattle.window.specs.declared.missing.Gap.{Gap}

pub record Between (low high x : ℕ) : Type 0 where
  pub least : low ≤ x
  pub most : x ≤ high

module _ (test : ℕ → Bool) where
  -- none passes, or a first one does
  pub first_none : (k n : ℕ) → ((j : ℕ) → k ≤ j → j < k + n → test j ≡ false) → first_from test k n ≡ k + n
  unfolding first_from
  first_none k zero h = omega arith
  first_none k (suc n) h =
      let e : k + 1 + n ≡ k + suc n = omega arith in
      simp (h k (omega arith) (omega arith)) (first_none (k + 1) n (λ j low high. h j (omega arith) (omega arith)) ∙ e)

  pub first_some : (k n i : ℕ) → k ≤ i → i < k + n → test i ≡ true → ((j : ℕ) → k ≤ j → j < i → test j ≡ false) → first_from test k n ≡ i
  unfolding first_from
  first_some k zero i low high here h = absurd (omega arith)
  first_some k (suc n) i low high here h =
      by_cases (ℕ_discrete k i)
      (λ e. simp (ap test e ∙ here) e)
      (λ other. simp (h k (omega arith) (omega arith)) (first_some (k + 1) n i (omega arith) (omega arith) here (λ j l m. h j (omega arith) m)))

  -- it is not before k, nor behind all n
  pub first_between : (k n : ℕ) → Between k (k + n) (first_from test k n)
  unfolding first_from
  first_between k zero = record { least = omega arith; most = omega arith }
  first_between k (suc n) = go (test k) (first_between (k + 1) n)
    where
      go : (b : Bool) → Between (k + 1) (k + 1 + n) (first_from test (k + 1) n) → Between k (k + suc n) (cond b k (first_from test (k + 1) n))
      go true h = record { least = omega arith; most = omega arith }
      go false h = record { least = omega arith; most = omega arith }

-- a number that is looked for is missing or not, as wanted
pub is_wanted : (w : List ℕ) (wanted : Bool) (k : ℕ) → beq (missing_in w k) wanted ≡ missing_is w wanted k
is_wanted w true k = go (missing_in w k)
  where
    go : (b : Bool) → beq b true ≡ b
    go true = refl
    go false = refl
is_wanted w false k = go (missing_in w k)
  where
    go : (b : Bool) → beq b false ≡ not b
    go true = refl
    go false = refl

pub is_first : {test : ℕ → Bool} {from limit r : ℕ} → from ≤ limit → r ≡ first_from test from (limit - from) → IsFirst test from limit r
is_first {test} {from} {limit} {r} h e =
    let b : Between from (from + (limit - from)) (first_from test from (limit - from)) = first_between test from (limit - from) in
    record { is = e; least = omega arith; most = omega arith }

-- a run by where it starts and stops
pub is_run : {missing : ℕ → Bool} {from limit start stop : ℕ} {gap : Gap} → from ≤ limit → IsFirst missing from limit start → IsFirst (λ j. not (missing j)) start limit stop → gap.start ≡ start → gap.count ≡ stop - start → IsRun missing from limit gap
unfolding run_from
is_run {missing} {from} {limit} {start} {stop} h a b e f =
    let g : from + (limit - from) ≡ limit = omega arith in
    record {
      start = e ∙ a.is;
      count = f ∙ rw (g, ← a.is, ← b.is);
      least = omega (arith, a.least);
      most = omega (arith, b.least, b.most);
    }

-- what a look along a range finds, or the limit
pub found_first : (test : ℕ → Bool) {from limit r : ℕ} (o : Option ℕ) → from ≤ limit
    → MatchOption o ((k : ℕ) → from ≤ k → k < limit → test k ≡ false) (λ i. (from ≤ i) × (i < limit) × (test i ≡ true) × ((k : ℕ) → from ≤ k → k < i → test k ≡ false))
    → r ≡ unwrap_or o limit → IsFirst test from limit r
found_first test {from} {limit} None h none is =
    let whole : from + (limit - from) ≡ limit = omega arith in
    is_first h (is ∙ sym (first_none test from (limit - from) (λ j low high. none j low (omega arith)) ∙ whole))
found_first test {from} {limit} (Some i) h seen is = is_first h (is ∙ sym (first_some test from (limit - from) i seen.0 (omega (arith, seen.1)) seen.2 seen.3))
