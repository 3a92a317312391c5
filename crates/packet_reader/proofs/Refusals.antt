-- The tests 1 to 7 are the tests 1 to 8 with 8 left out; and what is known of a packet that none of 1 to 7 refuses.
-- Assumes nothing.
use mathlib.Core.Path.{◌≡◌, refl, ap, ◌∙◌, sym}
use mathlib.Core.Bool.{Bool, true, false, cond, not}
use mathlib.Core.List.{List, [], ◌∷◌}
use mathlib.Core.Logic.{◌⊎◌, inl, inr}
use Prim.Native.Nat.{ℕ}
use native.Mathlib.Omega.{arith}
use borrow.Author.Tests.{eq-eqb, ne_eqb, eqb-true, eqb-false}
use lib.Dec.{eqb, ltb}
use Rattle.wire.specs.Choice.{first_of}
use Rattle.packet.specs.Header.{Test, decided, flag_tests, heartbeat, header_in, header_tests, judged, reserved, told, Judged}
use Rattle.packet.specs.Judging.{body_tests, judge_of, last_of, packet_tests, unless_heartbeat}
use Rattle.packet.specs.Walk.{walk_from}
use Rattle.std.proofs.Common.{◌++◌, Option, Some, None, Result, Err, IsErrAnd}
use Rattle.std.proofs.lemmas.Result.{err_from_is_err_and}
use Rattle.refusals.specs.Refusals.{number_of, refusal_by, refusal_in}
use Rattle.refusals.specs.declared.Refusal.{Refusal}
use Rattle.packet.specs.declared.header.Rejection.{Rejection}
use Rattle.packet.proofs.Headers.{Passed, passed}
use Rattle.packet.proofs.Judgements.{decides, header_numbered, joined, passes}
use Rattle.packet_reader.specs.Reading.{judged_by, read_tests, refusal_of, walk_tests}

-- a test's number, 8 taken as none
abbrev but8 : ℕ → ℕ
but8 n = cond (eqb n 8) 0 n

-- no test of a list is 8
abbrev No8 : List Test → Type 0
No8 [] = Unit {0}
No8 (x ∷ xs) = (eqb x.1.0 8 ≡ false) × No8 xs

by_test : (b : Bool) (a d e : ℕ × ℕ) → eqb a.0 8 ≡ false → but8 d.0 ≡ e.0 → but8 (cond b a d).0 ≡ (cond b a e).0
by_test true a d e n h = simp n
by_test false a d e n h = h

kept : (xs : List Test) (d e : ℕ × ℕ) → No8 xs → but8 d.0 ≡ e.0 → but8 (first_of xs d).0 ≡ (first_of xs e).0
kept [] d e n h = h
kept (x ∷ xs) d e n h = by_test x.0 x.1 (first_of xs d) (first_of xs e) n.0 (kept xs d e n.1 h)

header_no8 : (s : List ℕ) → No8 (header_tests s)
unfolding header_tests flag_tests
header_no8 s = (refl, (refl, (refl, (refl, (refl, (refl, (refl, tt)))))))

-- behind the header's tests
behind_header : (beats : Bool) (walked : Option ℕ) (seq messages : ℕ) → but8 (decided (unless_heartbeat beats (body_tests walked seq messages))).0 ≡ (decided (unless_heartbeat beats (walk_tests walked))).0
unfolding body_tests
behind_header true walked seq messages = refl
behind_header false (Some at) seq messages = refl
behind_header false None seq messages = go (ltb 4294967295 (last_of seq messages))
  where
    go : (b : Bool) → but8 (cond {A = ℕ × ℕ} b (8, 2) (0, 0)).0 ≡ 0
    go true = refl
    go false = refl

-- each test of a list has the number of a refusal
abbrev Told : List Test → Type 0
Told [] = Unit {0}
Told (x ∷ xs) = (number_of (refusal_by x.1.0) ≡ x.1.0) × Told xs

told_either : (b : Bool) (a d : ℕ × ℕ) → number_of (refusal_by a.0) ≡ a.0 → ((d.0 ≡ 0 → ⊥) → number_of (refusal_by d.0) ≡ d.0) → ((cond b a d).0 ≡ 0 → ⊥) → number_of (refusal_by (cond b a d).0) ≡ (cond b a d).0
told_either true a d one rest h = one
told_either false a d one rest h = rest h

told_by : (xs : List Test) → Told xs → ((decided xs).0 ≡ 0 → ⊥) → number_of (refusal_by (decided xs).0) ≡ (decided xs).0
told_by [] t h = absurd (h refl)
told_by (x ∷ xs) t h = told_either x.0 x.1 (decided xs) t.0 (told_by xs t.1) h

joined_told : (xs ys : List Test) → Told xs → Told ys → Told (xs ++ ys)
joined_told [] ys t u = u
joined_told (x ∷ xs) ys t u = (t.0, joined_told xs ys t.1 u)

header_told : (s : List ℕ) → Told (header_tests s)
unfolding header_tests flag_tests refusal_by
header_told s = (refl, (refl, (refl, (refl, (refl, (refl, (refl, tt)))))))

behind_told : (beats : Bool) (fault : Option ℕ) → Told (unless_heartbeat beats (walk_tests fault))
unfolding refusal_by
behind_told true fault = tt
behind_told false fault = (refl, tt)

read_told : (s : List ℕ) → Told (read_tests s)
unfolding read_tests
read_told s =
    joined_told (header_tests s) (unless_heartbeat (heartbeat (header_in s).flag) (walk_tests (walk_from (header_in s).messages 12 s))) (header_told s)
    (behind_told (heartbeat (header_in s).flag) (walk_from (header_in s).messages 12 s))

module _ (s : List ℕ) where
  -- the tests behind the header's
  abbrev more : List Test
  more = unless_heartbeat (heartbeat (header_in s).flag) (walk_tests (walk_from (header_in s).messages 12 s))

  apart : refusal_of s ≡ (first_of (header_tests s) (decided more)).0
  unfolding refusal_of read_tests
  apart = ap (λ (x : ℕ × ℕ). x.0) (joined (header_tests s) more (0, 0))

  pub but_eight : but8 (judge_of s).test ≡ refusal_of s
  unfolding judge_of packet_tests
  but_eight =
      let tests = unless_heartbeat (heartbeat (header_in s).flag) (body_tests (walk_from (header_in s).messages 12 s) (header_in s).seq (header_in s).messages) in
      ap (λ (x : ℕ × ℕ). but8 x.0) (joined (header_tests s) tests (0, 0))
      ∙ kept (header_tests s) (decided tests) (decided more) (header_no8 s) (behind_header (heartbeat (header_in s).flag) (walk_from (header_in s).messages 12 s) (header_in s).seq (header_in s).messages)
      ∙ sym apart

  -- by the test of 1 to 8 that was told
  module _ (row : ℕ × ℕ) (said : judged row ≡ judge_of s) where
    told_number : row.0 ≡ (judge_of s).test
    told_number = ap (λ (x : Judged). x.test) said

    pub eight : row.0 ≡ 8 → judged (0, 0) ≡ judged_by s
    unfolding judged_by
    eight h = sym (simp (eq-eqb (judge_of s).test 8 (sym told_number ∙ h)))

    pub others : (row.0 ≡ 8 → ⊥) → judged row ≡ judged_by s
    unfolding judged_by
    others h = said ∙ sym (simp (ne_eqb (judge_of s).test 8 (λ e. h (told_number ∙ e))))

  pub judged-number : (judged_by s).test ≡ refusal_of s
  unfolding judged_by
  judged-number = by_case (eqb (judge_of s).test 8) ∙ but_eight
    where
      by_case : (b : Bool) → (cond b (judged (0, 0)) (judge_of s)).test ≡ cond b 0 (judge_of s).test
      by_case true = refl
      by_case false = refl

  pub refusal_told_by : (answer : Result (Unit {0}) Refusal) (rejection : Rejection) → told (Err rejection) ≡ judged_by s → IsErrAnd answer (λ refusal. refusal ≡ rejection.refusal) → refusal_in answer ≡ refusal_of s
  refusal_told_by answer rejection said h =
      let e = err_from_is_err_and answer h in
      ap (λ (r : Result (Unit {0}) Refusal). refusal_in r) (e.1 ∙ ap Err e.2) ∙ ap (λ (x : Judged). x.test) said ∙ judged-number

  -- the number of 1 to 7 that applies is that of a refusal
  pub numbered : (refusal_of s ≡ 0 → ⊥) → number_of (refusal_by (refusal_of s)) ≡ refusal_of s
  unfolding refusal_of
  numbered some = told_by (read_tests s) (read_told s) some

  -- of a packet that none of 1 to 7 refuses
  module _ (none : refusal_of s ≡ 0) where
    header_none : (decided (header_tests s)).0 ≡ 0
    header_none = go (eqb (decided (header_tests s)).0 0) refl
      where
        go : (b : Bool) → eqb (decided (header_tests s)).0 0 ≡ b → (decided (header_tests s)).0 ≡ 0
        go true e = eqb-true _ _ e
        go false e =
            let z : (decided (header_tests s)).0 ≡ 0 → ⊥ = eqb-false _ _ e in
            absurd (z (sym (ap (λ (x : ℕ × ℕ). x.0) (decides (header_tests s) (decided more) z)) ∙ sym apart ∙ none))

    pub accepted : Passed s
    accepted = passed s header_none

    more_none : (decided more).0 ≡ 0
    more_none = sym (ap (λ (x : ℕ × ℕ). x.0) (passes (header_tests s) (decided more) (header_numbered s) header_none)) ∙ sym apart ∙ none

    whole_walk : (walked : Option ℕ) → (decided (walk_tests walked)).0 ≡ 0 → walked ≡ None
    whole_walk None h = refl
    whole_walk (Some at) h = absurd (omega arith)

    no_messages : (size flag messages : ℕ) → heartbeat flag ≡ true → (decided (flag_tests size flag messages)).0 ≡ 0 → messages ≡ 0
    unfolding flag_tests
    no_messages size flag messages beats h = go (reserved flag) (eqb size 12) (eqb messages 0) refl (simp beats at h)
      where
        go : (a b m : Bool) → eqb messages 0 ≡ m → (cond {A = ℕ × ℕ} a (4, 6) (cond (not b) (5, 0) (cond (not m) (5, 7) (0, 0)))).0 ≡ 0 → messages ≡ 0
        go a b true e z = eqb-true _ _ e
        go true b false e z = absurd (omega arith)
        go false true false e z = absurd (omega arith)
        go false false false e z = absurd (omega arith)

    pub heartbeat_empty : heartbeat (header_in s).flag ≡ true → (header_in s).messages ≡ 0
    heartbeat_empty beats = no_messages _ _ _ beats accepted.flags

    -- it is a heartbeat with no message, or its walk is whole
    pub either : ((header_in s).messages ≡ 0) ⊎ (walk_from (header_in s).messages 12 s ≡ None)
    either = go (heartbeat (header_in s).flag) refl
      where
        go : (b : Bool) → heartbeat (header_in s).flag ≡ b → ((header_in s).messages ≡ 0) ⊎ (walk_from (header_in s).messages 12 s ≡ None)
        go true e = inl (heartbeat_empty e)
        go false e = inr (whole_walk _ (simp e at more_none))
