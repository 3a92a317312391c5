-- What judging a packet answers: the refusal has the number of the test that applies, and what a packet that is taken leaves.
-- Assumes nothing.
use Rattle.std.specs.Prelude.{Result, Ok, Err}
use mathlib.Core.Path.{◌≡◌, refl, ap, ◌∙◌, sym}
use mathlib.Core.Bool.{Bool, true, false, cond, ◌&&◌}
use mathlib.Core.List.{List, [], ◌∷◌, ◌++◌}
use mathlib.Core.Option.{Option, none, some}
use Prim.Native.Nat.{ℕ, zero, suc, ◌+◌, ◌-◌, ◌≤◌, ◌<◌}
use native.Mathlib.Omega.{arith}
use borrow.Author.Tests.{eqb-true, eqb-false, ltb-true}
use lib.Dec.{eqb, ltb}
use lib.ListN.{length, get_or}
use Rattle.refusals.specs.Refusals.{answered, in_order, number_of, refusal_by, refusal_in, refusal_or_none}
use Rattle.refusals.specs.declared.Refusal.{Refusal}
use Rattle.refusals.specs.declared.Refusal.TheVariants.{RuleBroken}
use Rattle.merge.specs.State.{Packet, State, fresh_if, kept_if}
use Rattle.packet.specs.Header as header
use Rattle.packet.specs.Header.{Test, decided, flag_tests, header_in, header_tests}
use Rattle.packet.specs.Judging.{body_tests, packet_tests, unless_heartbeat}
use Rattle.packet.specs.Walk.{walk_from}
use Rattle.packet.proofs.Judgements.{and_left, and_right}
use Rattle.window_taking.specs.Taking.{judge, packet_in, take_tests, wait_tests}
use Rattle.window_taking.specs.Keeping.{admitted_of, count_of, fresh_by, kept_by, through_in}
use Rattle.window_taking.specs.Turns.{direct_by, end_by, refused_by}
use Rattle.window_taking.specs.declared.admitting.Admitted.{Admitted}

-- ---- a number and its refusal

-- refusals that have the numbers from one on
abbrev in_row : List Refusal → ℕ → Bool
in_row [] n = true
in_row (r ∷ rs) n = eqb (number_of r) n && in_row rs (suc n)

one_of : (rs : List Refusal) (n k : ℕ) → in_row rs n ≡ true → k < length rs → number_of (get_or rs k RuleBroken) ≡ n + k
one_of [] n k row h = absurd (omega arith)
one_of (r ∷ rs) n zero row h = omega (arith, eqb-true (number_of r) n (and_left (eqb (number_of r) n) (in_row rs (suc n)) row))
one_of (r ∷ rs) n (suc k) row h = omega (arith, one_of rs (suc n) k (and_right (eqb (number_of r) n) (in_row rs (suc n)) row) (omega arith))

pub number_by : (n : ℕ) → 1 ≤ n → n ≤ 14 → number_of (refusal_by n) ≡ n
unfolding refusal_by
number_by n least most = omega (arith, one_of in_order 1 (n - 1) refl (omega arith))

-- an answer that is refused by the number of a refusal has that number
pub answered_number : {A : Type 0} (n : ℕ) (a : A) → n ≤ 14 → refusal_in (answered n a) ≡ n
answered_number {A} n a most = go (eqb n 0) refl
  where
    go : (b : Bool) → eqb n 0 ≡ b → refusal_in {A = A} (cond b (Ok a) (Err (refusal_by n))) ≡ n
    go true e = sym (eqb-true n 0 e)
    go false e = number_by n (omega (arith, eqb-false n 0 e)) most

-- ---- the number of the test that decides

abbrev most_all : List Test → Bool
most_all [] = true
most_all (x ∷ xs) = ltb x.1.0 15 && most_all xs

on : (a b c : Bool) → (a && b) ≡ true → (b ≡ true → c ≡ true) → (a && c) ≡ true
on true b c h f = f h
on false b c h f = h

most_append : (xs ys : List Test) → most_all xs ≡ true → most_all ys ≡ true → most_all (xs ++ ys) ≡ true
most_append [] ys h g = g
most_append (x ∷ xs) ys h g = on (ltb x.1.0 15) (most_all xs) (most_all (xs ++ ys)) h (λ m. most_append xs ys m g)

most_decided : (xs : List Test) → most_all xs ≡ true → (decided xs).0 ≤ 14
most_decided [] h = omega arith
most_decided (x ∷ xs) h = go x.0 (most_decided xs (and_right (ltb x.1.0 15) (most_all xs) h))
  where
    go : (b : Bool) → (decided xs).0 ≤ 14 → (cond b x.1 (decided xs)).0 ≤ 14
    go true rest = omega (arith, ltb-true x.1.0 15 (and_left (ltb x.1.0 15) (most_all xs) h))
    go false rest = rest

header_most : (s : List ℕ) → most_all (header_tests s) ≡ true
unfolding header_tests flag_tests
header_most s = refl

packet_most : (s : List ℕ) → most_all (packet_tests s) ≡ true
unfolding packet_tests body_tests
packet_most s = most_append (header_tests s) (unless_heartbeat (header.heartbeat (header_in s).flag) (body_tests (walk_from (header_in s).messages 12 s) (header_in s).seq (header_in s).messages)) (header_most s) (go (header.heartbeat (header_in s).flag))
  where
    go : (b : Bool) → most_all (unless_heartbeat b (body_tests (walk_from (header_in s).messages 12 s) (header_in s).seq (header_in s).messages)) ≡ true
    go true = refl
    go false = refl

module _ {Table : Type 0} (x : State (List ℕ) Table) (s : List ℕ) where
  wait_most : (b : Bool) → most_all (unless_heartbeat b (wait_tests x s)) ≡ true
  wait_most true = refl
  wait_most false = refl

  pub test_most : (decided (take_tests x s)).0 ≤ 14
  unfolding take_tests
  test_most = most_decided (packet_tests s ++ unless_heartbeat (header.heartbeat (header_in s).flag) (wait_tests x s)) (most_append (packet_tests s) (unless_heartbeat (header.heartbeat (header_in s).flag) (wait_tests x s)) (packet_most s) (wait_most (header.heartbeat (header_in s).flag)))

-- ---- the parts of an answer

module _ {Table : Type 0} (through : Bool) (x : State (List ℕ) Table) (s : List ℕ) where
  abbrev given : Admitted
  given = record { end = (kept_by x s).end; direct = cond (through_in through x s) (count_of (judge x s)) 0; fresh = cond (through_in through x s) 0 (fresh_by x s) }

  pub refusal_told : refusal_in (admitted_of through x s) ≡ (decided (take_tests x s)).0
  unfolding admitted_of
  refusal_told = answered_number (decided (take_tests x s)).0 given (test_most x s)

  pub taken_told : (decided (take_tests x s)).0 ≡ 0 → admitted_of through x s ≡ Ok given
  unfolding admitted_of
  taken_told e = ap (λ (n : ℕ). answered n given) e

  refused_is : (r : Result Admitted Refusal) → refusal_or_none (refused_by r) ≡ refusal_in r
  refused_is (Ok a) = refl
  refused_is (Err e) = refl

  pub refused_told : refusal_or_none (refused_by (admitted_of through x s)) ≡ (decided (take_tests x s)).0
  refused_told = refused_is (admitted_of through x s) ∙ refusal_told

  -- by the test: a packet that is refused is none for the judge
  no_test : (b : Bool) → eqb (decided (take_tests x s)).0 0 ≡ b → judge x s ≡ cond b (some (packet_in s)) none
  unfolding judge
  no_test b e = ap (λ (c : Bool). cond c (some (packet_in s)) none) e

  pub end_told : end_by x.end (admitted_of through x s) ≡ (kept_by x s).end
  unfolding admitted_of kept_if
  end_told = go (eqb (decided (take_tests x s)).0 0) refl
    where
      go : (b : Bool) → eqb (decided (take_tests x s)).0 0 ≡ b → end_by x.end (cond b (Ok given) (Err (refusal_by (decided (take_tests x s)).0))) ≡ (kept_by x s).end
      go true e = refl
      go false e = sym (ap (λ (o : Option (Packet (List ℕ))). (kept_if x o).end) (no_test false e))

  pub direct_told : direct_by (admitted_of through x s) ≡ cond (through_in through x s) (count_of (judge x s)) 0
  unfolding admitted_of
  direct_told = go (eqb (decided (take_tests x s)).0 0) refl
    where
      none_of : (b : Bool) (n : ℕ) → n ≡ 0 → cond b n 0 ≡ 0
      none_of true n e = e
      none_of false n e = refl

      go : (b : Bool) → eqb (decided (take_tests x s)).0 0 ≡ b → direct_by (cond b (Ok given) (Err (refusal_by (decided (take_tests x s)).0))) ≡ cond (through_in through x s) (count_of (judge x s)) 0
      go true e = refl
      go false e = sym (none_of (through_in through x s) (count_of (judge x s)) (ap count_of (no_test false e)))

-- of a packet that is kept in any case: how many of its numbers now wait that did not before
abbrev pub fresh_in_answer : Result Admitted Refusal → ℕ
fresh_in_answer (Ok a) = a.fresh
fresh_in_answer (Err refusal) = 0

pub fresh_told : {Table : Type 0} (x : State (List ℕ) Table) (s : List ℕ) → fresh_in_answer (admitted_of false x s) ≡ fresh_by x s
unfolding admitted_of
fresh_told x s = go (eqb (decided (take_tests x s)).0 0) refl
  where
    go : (b : Bool) → eqb (decided (take_tests x s)).0 0 ≡ b → fresh_in_answer (cond b (Ok (given false x s)) (Err (refusal_by (decided (take_tests x s)).0))) ≡ fresh_by x s
    go true e = refl
    go false e = sym (ap (fresh_if x) (no_test false x s false e))
