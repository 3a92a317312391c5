-- Tests one after the other: the first list that has one that applies decides.
-- Assumes nothing.
use mathlib.Core.Path.{◌≡◌, refl, ap, ◌∙◌, sym}
use mathlib.Core.Bool.{Bool, true, false, cond, not, ◌&&◌, true≢false}
use mathlib.Core.List.{List, [], ◌∷◌, ◌++◌}
use Prim.Native.Nat.{ℕ, ◌+◌, ◌%◌, ◌≤◌, ◌<◌}
use native.Mathlib.Omega.{arith}
use borrow.Author.Tests.{lt-ltb, le-ltb, eq-eqb, ne_eqb}
use lib.Dec.{eqb}
use Rattle.wire.specs.Choice.{first_of}
use Rattle.packet.specs.Header.{Judged, Test, decided, flag_tests, heartbeat, header_in, header_tests, judged, told}
use Rattle.packet.specs.Judging.{body_tests, last_of, packet_tests, judge_of, unless_heartbeat}
use Rattle.packet.specs.Walk.{walk_from}
use Rattle.packet.specs.declared.header.Header.{Header}
use Rattle.packet.specs.declared.header.Rejection.{Rejection}
use Rattle.packet.proofs.Headers.{no_number, none}
use Rattle.refusals.specs.Refusals.{number_of}
use Rattle.std.proofs.Common.{Result, Ok, Err, IsErrAnd, Option, Some, None}
use Rattle.std.proofs.lemmas.Result.{err_from_is_err_and}

pub joined : (xs ys : List Test) (d : ℕ × ℕ) → first_of (xs ++ ys) d ≡ first_of xs (first_of ys d)
joined [] ys d = refl
joined (x ∷ xs) ys d = ap (cond x.0 x.1) (joined xs ys d)

-- a list with a test that applies decides, whatever comes behind it
by_test : (b : Bool) (a d e : ℕ × ℕ) → ((cond b a d).0 ≡ 0 → ⊥) → ((d.0 ≡ 0 → ⊥) → e ≡ d) → cond b a e ≡ cond b a d
by_test true a d e h ih = refl
by_test false a d e h ih = ih h

pub decides : (xs : List Test) (d : ℕ × ℕ) → ((decided xs).0 ≡ 0 → ⊥) → first_of xs d ≡ decided xs
decides [] d h = absurd (h refl)
decides (x ∷ xs) d h = by_test x.0 x.1 (decided xs) (first_of xs d) h (decides xs d)

-- a list with none passes on, since no test has the number 0
abbrev pub numbered : List Test → Bool
numbered [] = true
numbered (x ∷ xs) = not (eqb x.1.0 0) && numbered xs

pub and_left : (a b : Bool) → (a && b) ≡ true → a ≡ true
and_left true b h = refl
and_left false b h = h

pub and_right : (a b : Bool) → (a && b) ≡ true → b ≡ true
and_right true b h = h
and_right false b h = absurd (true≢false (sym h))

pass_step : (b : Bool) (a rest e d : ℕ × ℕ) → not (eqb a.0 0) ≡ true → (cond b a rest).0 ≡ 0 → (rest.0 ≡ 0 → e ≡ d) → cond b a e ≡ d
pass_step true a rest e d n h ih =
    let z : not (eqb a.0 0) ≡ false = simp (eq-eqb a.0 0 h) in
    absurd (true≢false (sym n ∙ z))
pass_step false a rest e d n h ih = ih h

pub passes : (xs : List Test) (d : ℕ × ℕ) → numbered xs ≡ true → (decided xs).0 ≡ 0 → first_of xs d ≡ d
passes [] d n h = refl
passes (x ∷ xs) d n h =
    let first = not (eqb x.1.0 0) in
    pass_step x.0 x.1 (decided xs) (first_of xs d) d (and_left first (numbered xs) n) h
    (passes xs d (and_right first (numbered xs) n))

pub header_numbered : (s : List ℕ) → numbered (header_tests s) ≡ true
unfolding header_tests flag_tests
header_numbered s = refl

-- 7 and 8, by how the walk ended
module _ {walked : Option ℕ} (seq messages : ℕ) where
  pub body_broken : {at : ℕ} → walked ≡ Some at → judged (7, at) ≡ judged (decided (body_tests walked seq messages))
  unfolding body_tests
  body_broken e = rw e

  pub body_past : walked ≡ None → 4294967296 < seq + messages → judged (8, 2) ≡ judged (decided (body_tests walked seq messages))
  unfolding body_tests
  body_past e h = rw (e, lt-ltb 4294967295 (last_of seq messages) (omega arith))

  pub body_good : walked ≡ None → seq + messages ≤ 4294967296 → judged (0, 0) ≡ judged (decided (body_tests walked seq messages))
  unfolding body_tests
  body_good e h = rw (e, le-ltb 4294967295 (last_of seq messages) (omega arith))

module _ (s : List ℕ) where
  -- the tests behind the header's, as one list
  more : List Test
  more = unless_heartbeat (heartbeat (header_in s).flag) (body_tests (walk_from (header_in s).messages 12 s) (header_in s).seq (header_in s).messages)

  apart : judge_of s ≡ judged (first_of (header_tests s) (decided more))
  unfolding judge_of packet_tests more
  apart = ap judged (joined (header_tests s) more (0, 0))

  -- a rejection by the header decides
  pub head_decides : (answer : Result (Unit {0}) Rejection) (rejection : Rejection) → told (Err rejection) ≡ judged (decided (header_tests s)) → IsErrAnd answer (λ other. other ≡ rejection) → told answer ≡ judge_of s
  head_decides answer rejection said h =
      let e = err_from_is_err_and answer h in
      let number : number_of rejection.refusal ≡ (decided (header_tests s)).0 = ap (λ (x : Judged). x.test) said in
      ap told (e.1 ∙ ap Err e.2)
      ∙ said
      ∙ sym (apart ∙ ap judged (decides (header_tests s) (decided more) (λ z. no_number rejection (number ∙ z))))

  -- of a header that no test refuses and that was read
  module _ (good : told (Ok tt) ≡ judged (decided (header_tests s))) {head : Header} (read : head ≡ header_in s) where
    flag : head.flag ≡ (header_in s).flag
    flag = ap (λ (x : Header). x.flag) read

    beating : head.flag % 2 ≡ 1 → decided more ≡ (0, 0)
    unfolding more
    beating h = simp (eq-eqb ((header_in s).flag % 2) 1 (ap (λ (n : ℕ). n % 2) (sym flag) ∙ h))

    pub beats : head.flag % 2 ≡ 1 → told (Ok tt) ≡ judge_of s
    beats h = good ∙ sym (apart ∙ ap (λ (d : ℕ × ℕ). judged (first_of (header_tests s) d)) (beating h))

    -- the tests of a body are those of the header that was read
    bodied : (fault : Option ℕ) → fault ≡ walk_from head.messages 12 s → (head.flag % 2 ≡ 1 → ⊥) → more ≡ body_tests fault head.seq head.messages
    unfolding more
    bodied fault e h =
        simp (ne_eqb ((header_in s).flag % 2) 1 (λ p. h (ap (λ (n : ℕ). n % 2) flag ∙ p)))
        (sym (ap (λ (w : Option ℕ). body_tests w head.seq head.messages) e
        ∙ ap (λ (x : Header). body_tests (walk_from x.messages 12 s) x.seq x.messages) read))

    pub body_decides : {fault : Option ℕ} {r : Judged} → (head.flag % 2 ≡ 1 → ⊥) → fault ≡ walk_from head.messages 12 s → r ≡ judged (decided (body_tests fault head.seq head.messages)) → r ≡ judge_of s
    body_decides {fault} h e said =
        said
        ∙ ap (λ (tests : List Test). judged (decided tests)) (sym (bodied fault e h))
        ∙ sym (apart ∙ ap judged (passes (header_tests s) (decided more) (header_numbered s) (none s good)))
