-- One step of the walk, by the test that decides it, and what a step does to the rest of the walk.
-- Assumes nothing.
use mathlib.Core.Path.{◌≡◌, refl, ap, ◌∙◌, sym, subst}
use mathlib.Core.Bool.{Bool, true, false, ◌||◌, true≢false}
use mathlib.Core.List.{List}
use Prim.Native.Nat.{ℕ, zero, suc, ◌+◌, ◌-◌, ◌≤◌, ◌<◌}
use native.Mathlib.Omega.{arith}
use borrow.Author.Tests.{lt-ltb, le-ltb, ne_eqb, ltb-false, eqb-false, eqb-true}
use lib.Dec.{eqb, ltb}
use lib.ListN.{length}
use Rattle.message.specs.Table.{too_short}
use Rattle.std.proofs.Common.{Some, None}
use Rattle.packet.specs.Walk.{size_at, type_at, broken_at, some_size, step_at, walk_from}

broken_step : (s : List ℕ) (at : ℕ) → broken_at s at ≡ true → 0 ≡ step_at s at
unfolding step_at
broken_step s at h = simp h

module _ (s : List ℕ) (at : ℕ) (within : at ≤ length s) where
  pub past : length s - at < 3 → 0 ≡ step_at s at
  unfolding broken_at
  past h = broken_step s at (simp (lt-ltb (length s) (at + 3) (omega arith)))

  module _ (least : 3 ≤ length s - at) {size : ℕ} (told : size ≡ size_at s at) where
    pub small : size < 3 → 0 ≡ step_at s at
    unfolding broken_at
    small h = broken_step s at (simp (le-ltb (length s) (at + 3) (omega arith), lt-ltb (size_at s at) 3 (omega arith)))

    module _ (enough : 3 ≤ size) where
      pub large : 128 < size → 0 ≡ step_at s at
      unfolding broken_at
      large h =
          broken_step s at
          (simp (le-ltb (length s) (at + 3) (omega arith), le-ltb (size_at s at) 3 (omega arith), lt-ltb 128 (size_at s at) (omega arith)))

      module _ (most : size ≤ 128) where
        pub over : length s - at < size → 0 ≡ step_at s at
        unfolding broken_at
        over h =
            broken_step s at
            (simp (le-ltb (length s) (at + 3) (omega arith), le-ltb (size_at s at) 3 (omega arith), le-ltb 128 (size_at s at) (omega arith), lt-ltb (length s) (at + size_at s at) (omega arith)))

        module _ (fits : size ≤ length s - at) {type : ℕ} (kind : type ≡ type_at s at) where
          by_table : (t : Bool) → too_short type size ≡ t → broken_at s at ≡ t
          unfolding broken_at
          by_table t h =
              let e : too_short (type_at s at) (size_at s at) ≡ t =
              subst (λ (n : ℕ). too_short (type_at s at) n ≡ t) told (subst (λ (k : ℕ). too_short k size ≡ t) kind h) in
              simp (le-ltb (length s) (at + 3) (omega arith), le-ltb (size_at s at) 3 (omega arith), le-ltb 128 (size_at s at) (omega arith), le-ltb (length s) (at + size_at s at) (omega arith), e)

          pub short : too_short type size ≡ true → 0 ≡ step_at s at
          short h = broken_step s at (by_table true h)

          pub whole : too_short type size ≡ false → size ≡ step_at s at
          unfolding step_at
          whole h = told ∙ sym (simp (by_table false h))

or_left : (a b : Bool) → (a || b) ≡ false → a ≡ false
or_left true b h = h
or_left false b h = refl

or_right : (a b : Bool) → (a || b) ≡ false → b ≡ false
or_right true b h = absurd (true≢false h)
or_right false b h = h

-- a message that is not at fault has its header, and lies within the packet
pub record Lies (s : List ℕ) (at size : ℕ) : Type 0 where
  pub least : 3 ≤ size
  pub most : size ≤ 128
  pub within : at + size ≤ length s
  pub enough : too_short (type_at s at) size ≡ false

pub lies : (s : List ℕ) (at : ℕ) → broken_at s at ≡ false → Lies s at (size_at s at)
unfolding broken_at
lies s at h =
    let sized = ltb (length s) (at + 3) || ltb (size_at s at) 3 in
    let bounded = sized || ltb 128 (size_at s at) in
    let placed = bounded || ltb (length s) (at + size_at s at) in
    let h₄ : placed ≡ false = or_left placed (too_short (type_at s at) (size_at s at)) h in
    let h₃ : bounded ≡ false = or_left bounded (ltb (length s) (at + size_at s at)) h₄ in
    let h₂ : sized ≡ false = or_left sized (ltb 128 (size_at s at)) h₃ in
    record {
      least = ltb-false (size_at s at) 3 (or_right (ltb (length s) (at + 3)) (ltb (size_at s at) 3) h₂);
      most = ltb-false 128 (size_at s at) (or_right sized (ltb 128 (size_at s at)) h₃);
      within = ltb-false (length s) (at + size_at s at) (or_right bounded (ltb (length s) (at + size_at s at)) h₄);
      enough = or_right placed (too_short (type_at s at) (size_at s at)) h;
    }

-- a step is 0 exactly at a fault
pub step_fault : (s : List ℕ) (at size : ℕ) → size ≡ step_at s at → size ≡ 0 → broken_at s at ≡ true
unfolding step_at
step_fault s at size told none = go (broken_at s at) refl
  where
    go : (b : Bool) → broken_at s at ≡ b → broken_at s at ≡ true
    go true e = e
    go false e =
        let z : size_at s at ≡ 0 = sym (told ∙ simp e) ∙ none in
        let l : Lies s at (size_at s at) = lies s at e in
        absurd (omega arith)

pub step_size : (s : List ℕ) (at size : ℕ) → size ≡ step_at s at → (size ≡ 0 → ⊥) → (broken_at s at ≡ false) × (size ≡ size_at s at)
unfolding step_at
step_size s at size told some = go (broken_at s at) refl
  where
    go : (b : Bool) → broken_at s at ≡ b → (broken_at s at ≡ false) × (size ≡ size_at s at)
    go true e = absurd (some (told ∙ simp e))
    go false e = (e, told ∙ simp e)

-- what a size that was found, or none, says of a step
pub found : (size step : ℕ) → Some size ≡ some_size step → (size ≡ step) × (size ≡ 0 → ⊥)
found size step told = go (eqb step 0) refl
  where
    go : (b : Bool) → eqb step 0 ≡ b → (size ≡ step) × (size ≡ 0 → ⊥)
    go true e =
        let f : Some size ≡ None = simp e at told in
        let no : ◌≡◌ {A = ℕ} 0 1 = cc in
        absurd (omega arith)
    go false e =
        let f : Some size ≡ Some step = simp e at told in
        let same : size ≡ step = cc in
        (same, λ z. eqb-false step 0 e (sym same ∙ z))

pub missing : (step : ℕ) → None ≡ some_size step → step ≡ 0
missing step told = go (eqb step 0) refl
  where
    go : (b : Bool) → eqb step 0 ≡ b → step ≡ 0
    go true e = eqb-true step 0 e
    go false e =
        let f : None ≡ Some step = simp e at told in
        let no : ◌≡◌ {A = ℕ} 0 1 = cc in
        absurd (omega arith)

pub sized : {size step : ℕ} → 1 ≤ size → size ≡ step → Some size ≡ some_size step
sized {size} {step} some told = ap Some told ∙ sym (simp (ne_eqb step 0 (λ z. absurd (omega (arith, z, told)))))

-- the walk by one step
module _ (s : List ℕ) (at : ℕ) where
  pub step_within : (size : ℕ) → size ≡ step_at s at → (size ≡ 0 → ⊥) → Lies s at size
  step_within size told good =
      let h : (broken_at s at ≡ false) × (size ≡ size_at s at) = step_size s at size told good in
      subst (λ (n : ℕ). Lies s at n) (sym h.1) (lies s at h.0)

  pub walk_stops : (left : ℕ) → 0 < left → None ≡ some_size (step_at s at) → Some at ≡ walk_from left at s
  unfolding walk_from
  walk_stops zero some none = absurd (omega arith)
  walk_stops (suc left) some none = simp (step_fault s at (step_at s at) refl (missing _ none))

  module _ {size : ℕ} (told : Some size ≡ some_size (step_at s at)) where
    abbrev size_found : (size ≡ step_at s at) × (size ≡ 0 → ⊥)
    size_found = found size (step_at s at) told

    pub found_lies : Lies s at size
    found_lies = step_within size size_found.0 size_found.1

    pub walk_goes : (left next : ℕ) → left ≡ suc next → walk_from left at s ≡ walk_from next (at + size) s
    unfolding walk_from
    walk_goes zero next e = absurd (omega arith)
    walk_goes (suc left) next e =
        let h : (broken_at s at ≡ false) × (size ≡ size_at s at) = step_size s at size size_found.0 size_found.1 in
        let n : left ≡ next = omega arith in
        simp (h.0, h.1, n)

-- the walk's end
pub left_over : (s : List ℕ) (at left : ℕ) → left ≤ 0 → at < length s → Some at ≡ walk_from left at s
unfolding walk_from
left_over s at zero none h = simp (lt-ltb at (length s) h)
left_over s at (suc left) none h = absurd (omega arith)

pub all_there : (s : List ℕ) (at left : ℕ) → left ≤ 0 → length s ≤ at → None ≡ walk_from left at s
unfolding walk_from
all_there s at zero none h = simp (le-ltb at (length s) h)
all_there s at (suc left) none h = absurd (omega arith)
