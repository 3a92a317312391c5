-- Records by name, whatever they are: of a list in which at most one passes a test, the one that does, as records come behind
-- the last, change in their place, and leave with the last in their place.
-- Assumes nothing.
use mathlib.Core.Path.{◌≡◌, refl, ap, ◌∙◌, sym, subst}
use mathlib.Core.Logic.{◌≢◌, ◌⊎◌, inl, inr, ⊎_elim}
use mathlib.Core.Bool.{Bool, true, false, cond}
use mathlib.Core.List.{List, [], ◌∷◌, ◌++◌, map}
use Prim.Native.Nat.{ℕ, zero, suc, ◌-◌, ◌≤◌, ◌<◌}
use native.Mathlib.Omega.{arith}
use lib.ListN.{length, get_or, set, length-set, length-map, get_or-map}
use lib.Seq.{get_or-set_same, get_or-set_other}
use Rattle.std.specs.Prelude.{None, Option, Some}
use Rattle.book_index.specs.Changes.{without}
use Rattle.book_index.proofs.Moves.{length_without, without_here, without_other}
use Rattle.book.specs.Lookup.{is_at, place_found}
use Rattle.book.specs.Named.{first_that}
use Rattle.book.proofs.Types.{no, split}

-- the other one, where there is no first
abbrev or_else : {A : Type 0} → Option A → Option A → Option A
or_else None other = other
or_else (Some x) other = Some x

-- the record at the place that a look-up found, if it found one
abbrev pub pointed : {A : Type 0} → A → List A → Option ℕ → Option A
pointed d xs (Some place) = Some (get_or xs place d)
pointed d xs None = None

-- a place at which the test passes
pub record Passing {A : Type 0} (d : A) (test : A → Bool) (xs : List A) : Type 0 where
  pub place : ℕ
  pub within : place < length xs
  pub passes : test (get_or xs place d) ≡ true

module _ {A : Type 0} (d : A) (test : A → Bool) where
  abbrev pub Nowhere : List A → Type 0
  Nowhere xs = (i : ℕ) → i < length xs → test (get_or xs i d) ≡ false

  -- any two that pass are one
  abbrev pub One : List A → Type 0
  One xs = (i j : ℕ) → i < length xs → j < length xs → test (get_or xs i d) ≡ true → test (get_or xs j d) ≡ true → i ≡ j

  pub nowhere : (xs : List A) → Nowhere xs → first_that test xs ≡ None
  unfolding first_that
  nowhere [] f = refl
  nowhere (x ∷ xs) f = simp (f 0 (omega arith)) (nowhere xs (λ i h. f (suc i) (omega arith)))

  first_at : (xs : List A) (i : ℕ) → i < length xs → test (get_or xs i d) ≡ true → ((j : ℕ) → j < i → test (get_or xs j d) ≡ false) → first_that test xs ≡ Some (get_or xs i d)
  unfolding first_that
  first_at [] i h e before = absurd (omega arith)
  first_at (x ∷ xs) zero h e before = simp e
  first_at (x ∷ xs) (suc i) h e before = simp (before 0 (omega arith)) (first_at xs i (omega arith) e (λ j l. before (suc j) (omega arith)))

  others : (xs : List A) → One xs → (i j : ℕ) → i < length xs → j < length xs → i ≢ j → test (get_or xs i d) ≡ true → test (get_or xs j d) ≡ false
  others xs one i j h l n e = by (test (get_or xs j d)) refl
    where
      by : (b : Bool) → test (get_or xs j d) ≡ b → b ≡ false
      by true f = absurd (n (one i j h l e f))
      by false f = refl

  -- where any two are one, the one at a place that passes is found
  pub there : (xs : List A) → One xs → (i : ℕ) → i < length xs → test (get_or xs i d) ≡ true → first_that test xs ≡ Some (get_or xs i d)
  there xs one i h e = first_at xs i h e (λ j l. others xs one i j h (omega arith) (λ z. omega arith) e)

  stands : (xs : List A) → Passing d test xs ⊎ Nowhere xs
  stands [] = inr (λ i h. absurd (omega arith))
  stands (x ∷ xs) = by (test x) refl (stands xs)
    where
      later : Passing d test xs → Passing d test (x ∷ xs)
      later p = record { place = suc p.place; within = let h = p.within in omega arith; passes = p.passes }

      never : test x ≡ false → Nowhere xs → Nowhere (x ∷ xs)
      never e f zero h = e
      never e f (suc i) h = f i (omega arith)

      by : (b : Bool) → test x ≡ b → Passing d test xs ⊎ Nowhere xs → Passing d test (x ∷ xs) ⊎ Nowhere (x ∷ xs)
      by true e s = inl (record { place = 0; within = omega arith; passes = e })
      by false e s = ⊎_elim (λ (p : Passing d test xs). inl (later p)) (λ (f : Nowhere xs). inr (never e f)) s

  -- ---- one more behind the last

  more : (xs : List A) (x : A) → first_that test (xs ++ (x ∷ [])) ≡ or_else (first_that test xs) (cond (test x) (Some x) None)
  unfolding first_that
  more [] x = refl
  more (y ∷ xs) x = step (test y) (first_that test xs) (more xs x)
    where
      step : (b : Bool) (o : Option A) {p : Option A} → p ≡ or_else o (cond (test x) (Some x) None) → cond b (Some y) p ≡ or_else (cond b (Some y) o) (cond (test x) (Some x) None)
      step true o e = refl
      step false o e = e

  pub put_same : (xs : List A) (x : A) → first_that test xs ≡ None → test x ≡ true → first_that test (xs ++ (x ∷ [])) ≡ Some x
  put_same xs x none_yet e = more xs x ∙ simp (none_yet, e)

  pub put_other : (xs : List A) (x : A) → test x ≡ false → first_that test (xs ++ (x ∷ [])) ≡ first_that test xs
  put_other xs x e = more xs x ∙ ap (λ (b : Bool). or_else (first_that test xs) (cond b (Some x) None)) e ∙ same (first_that test xs)
    where
      same : (o : Option A) → or_else o None ≡ o
      same None = refl
      same (Some y) = refl

  -- ---- another in a place

  pub set_same : (xs : List A) (j : ℕ) (x : A) → One xs → j < length xs → test (get_or xs j d) ≡ true → test x ≡ true → first_that test (set xs j x) ≡ Some x
  set_same xs j x one h old new =
      let l : j < length (set xs j x) = rw length-set h in
      let at : get_or (set xs j x) j d ≡ x = get_or-set_same xs j x d h in
      first_at (set xs j x) j l (ap test at ∙ new)
      (λ i less. ap test (get_or-set_other xs j i x d (λ z. omega arith)) ∙ others xs one j i h (omega arith) (λ z. omega arith) old)
      ∙ ap Some at

  pub set_other : (xs : List A) (j : ℕ) (x : A) → test (get_or xs j d) ≡ false → test x ≡ false → first_that test (set xs j x) ≡ first_that test xs
  unfolding first_that
  set_other [] j x old new = refl
  set_other (y ∷ xs) zero x old new = simp (old, new)
  set_other (y ∷ xs) (suc j) x old new = ap (λ (o : Option A). cond (test y) (Some y) o) (set_other xs j x old new)

  -- ---- one leaves, and the last takes its place

  module _ (xs : List A) (j : ℕ) (one : One xs) (h : j < length xs) where
    abbrev rest : List A
    rest = without d j xs

    size : length rest ≡ length xs - 1
    size = length_without d j xs

    -- each that stays was there before, at another place
    stayed : (P : A → Type 0) → ((i : ℕ) → i < length xs → i ≢ j → P (get_or xs i d)) → (i : ℕ) → i < length rest → P (get_or rest i d)
    stayed P f i l =
        let s = size in
        let low : i < length xs - 1 = omega arith in
        split i j
        (λ e. let at : j < length xs - 1 = omega arith in
        subst P (sym (ap (λ (k : ℕ). get_or rest k d) e ∙ without_here d j xs at)) (f (length xs - 1) (omega arith) (λ z. omega arith)))
        (λ n. subst P (sym (without_other d j xs i low n)) (f i (omega arith) n))

    pub leave_same : test (get_or xs j d) ≡ true → first_that test rest ≡ None
    leave_same e = nowhere rest (stayed (λ x. test x ≡ false) (λ i l n. others xs one j i h l (λ z. n (sym z)) e))

    -- the one at a place that stays, at its place or at the one that was left
    kept_at : (i : ℕ) → i < length xs → i ≢ j → test (get_or xs i d) ≡ true → first_that test rest ≡ Some (get_or xs i d)
    kept_at i l n e =
        let s = size in
        split i (length xs - 1)
        (λ z.
        let at : j < length xs - 1 = omega arith in
        let here : get_or rest j d ≡ get_or xs i d = without_here d j xs at ∙ ap (λ (k : ℕ). get_or xs k d) (sym z) in
        first_at rest j (omega arith) (ap test here ∙ e)
        (λ k less.
        let low : k < length xs - 1 = omega arith in
        let away : k ≢ j = λ q. omega arith in
        ap test (without_other d j xs k low away) ∙ others xs one i k l (omega arith) (λ q. omega arith) e)
        ∙ ap Some here)
        (λ z.
        let at : i < length xs - 1 = omega arith in
        let here : get_or rest i d ≡ get_or xs i d = without_other d j xs i at n in
        first_at rest i (omega arith) (ap test here ∙ e)
        (λ k less. split k j
        (λ q.
        let low : j < length xs - 1 = omega arith in
        ap (λ (p : ℕ). test (get_or rest p d)) q ∙ ap test (without_here d j xs low) ∙ others xs one i (length xs - 1) l (omega arith) z e)
        (λ q.
        let low : k < length xs - 1 = omega arith in
        ap test (without_other d j xs k low q) ∙ others xs one i k l (omega arith) (λ r. omega arith) e))
        ∙ ap Some here)

    pub leave_other : test (get_or xs j d) ≡ false → first_that test rest ≡ first_that test xs
    leave_other e =
        ⊎_elim
        (λ (p : Passing d test xs).
        let n : p.place ≢ j = λ z. no (sym e ∙ ap (λ (k : ℕ). test (get_or xs k d)) (sym z) ∙ p.passes) in
        kept_at p.place p.within n p.passes ∙ sym (there xs one p.place p.within p.passes))
        (λ (f : Nowhere xs). nowhere rest (stayed (λ x. test x ≡ false) (λ i l n. f i l)) ∙ sym (nowhere xs f))
        (stands xs)

  -- ---- a look-up from place to place

  -- what it says of the places from k on: the first that passes, or that none does
  abbrev pub Says : ℕ → List A → Option ℕ → Type 0
  Says k xs (Some p) = (k ≤ p) × (p - k < length xs) × (test (get_or xs (p - k) d) ≡ true) × ((i : ℕ) → i < p - k → test (get_or xs i d) ≡ false)
  Says k xs None = Nowhere xs

  pub says_here : (k : ℕ) (x : A) (xs : List A) → test x ≡ true → Says k (x ∷ xs) (Some k)
  says_here k x xs e =
      let z : k - k ≡ 0 = omega arith in
      (omega arith, rw z (omega arith), rw z e, λ i h. absurd (omega arith))

  pub says_on : (k : ℕ) (x : A) (xs : List A) (f : Option ℕ) → test x ≡ false → Says (suc k) xs f → Says k (x ∷ xs) f
  says_on k x xs (Some p) e s =
      let low : suc k ≤ p = s.0 in
      let within : p - suc k < length xs = s.1 in
      let z : p - k ≡ suc (p - suc k) = omega arith in
      (omega arith, rw z (omega arith), rw z s.2, rw z (before s.3))
    where
      before : {n : ℕ} → ((i : ℕ) → i < n → test (get_or xs i d) ≡ false) → (i : ℕ) → i < suc n → test (get_or (x ∷ xs) i d) ≡ false
      before f zero h = e
      before f (suc i) h = f i (omega arith)
  says_on k x xs None e s = never s
    where
      never : Nowhere xs → Nowhere (x ∷ xs)
      never f zero h = e
      never f (suc i) h = f i (omega arith)

  pub said : (xs : List A) (f : Option ℕ) → Says 0 xs f → first_that test xs ≡ pointed d xs f
  said xs (Some p) s =
      let z : p - 0 ≡ p = omega arith in
      let within : p < length xs = rw z at s.1 in
      let passes : test (get_or xs p d) ≡ true = rw z at s.2 in
      let before : (i : ℕ) → i < p → test (get_or xs i d) ≡ false = rw z at s.3 in
      first_at xs p within passes before
  said xs None s = nowhere xs s

  -- a place that is said passes; where none is said, none passes
  pub said_at : (xs : List A) (f : Option ℕ) → Says 0 xs f → is_at f ≡ true → (place_found f < length xs) × (test (get_or xs (place_found f) d) ≡ true)
  said_at xs (Some p) s e =
      let z : p - 0 ≡ p = omega arith in
      (rw z at s.1, rw z at s.2)
  said_at xs None s e = no e

  pub said_none : (xs : List A) (f : Option ℕ) → Says 0 xs f → is_at f ≡ false → Nowhere xs
  said_none xs (Some p) s e = no (sym e)
  said_none xs None s e = s

-- what is said of the keys is said of the records that have them
pub says_map : {A B : Type 0} (f : A → B) (d : A) (test : B → Bool) (k : ℕ) (xs : List A) (found : Option ℕ) → Says (f d) test k (map f xs) found → Says d (λ x. test (f x)) k xs found
says_map f d test k xs (Some p) s =
    (s.0, subst (λ (n : ℕ). p - k < n) (length-map xs f) s.1, ap test (sym (get_or-map f xs (p - k) d)) ∙ s.2, λ i h. ap test (sym (get_or-map f xs i d)) ∙ s.3 i h)
says_map f d test k xs None s = λ i h. ap test (sym (get_or-map f xs i d)) ∙ s i (subst (λ (n : ℕ). i < n) (sym (length-map xs f)) h)
