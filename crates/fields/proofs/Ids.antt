-- Laws of an id's rule, value and answer.
use Rattle.std.proofs.Common.{◌≡◌, ℕ, zero, suc, ◌+◌, ◌*◌, ◌^◌, ◌<◌, ◌≤◌, Bool, true, false, cond, ◌≢◌, List, get_or, take, sym, refl, ap, ◌∙◌, ap₂, le_refl, mul_comm, pow-suc, arith, lit<, get_or-take, ne_eqb, Ok, Err, Result, is_ok}
use native.Mathlib.Nat.{le_of_suc-le}
use lib.Arith.{digits_lt}
use Rattle.refusals.specs.declared.Refusal.{Refusal}
use Rattle.refusals.specs.declared.Refusal.TheVariants.{BadQuestion}
use Rattle.fields.specs.Tests.{first_all}
use Rattle.fields.specs.Id.{is_digit, digit_of, good_id, value_of, no_value, number_of, is_value, id_answer}
use Rattle.fields.proofs.Tests.{all-before, all_last, all_take}
use Rattle.fields.proofs.Four.{digit_spelt}

-- ---- the value

pub value_below : (id : List ℕ) (k : ℕ) → first_all is_digit k id ≡ true → value_of k id < 36 ^ k
unfolding value_of
value_below id zero good = lit< tt
value_below id (suc k) good =
    rw
    (mul_comm 36 (value_of k id), pow-suc)
    (digits_lt (value_below id k (all-before is_digit id k good)) (digit_spelt (get_or id k 0) (all_last is_digit id k good)).digit)

-- no character past the first k counts
pub value_take : (id : List ℕ) (k n : ℕ) → k ≤ n → value_of k (take n id) ≡ value_of k id
unfolding value_of
value_take id zero n h = refl
value_take id (suc k) n h =
    ap₂ (λ (v c : ℕ). 36 * v + digit_of c) (value_take id k n (le_of_suc-le h)) (get_or-take n id k 0 h)

-- ---- the answer

pub answer_good : (id : List ℕ) → good_id id ≡ true → id_answer id ≡ Ok (value_of 12 id)
unfolding id_answer
answer_good id good = ap (λ (b : Bool). cond b (Ok (value_of 12 id)) (Err BadQuestion)) good

pub answer_bad : (id : List ℕ) → good_id id ≡ false → id_answer id ≡ Err BadQuestion
unfolding id_answer
answer_bad id bad = ap (λ (b : Bool). cond b (Ok (value_of 12 id)) (Err BadQuestion)) bad

-- the last two characters do not count: ids with the same first twelve have the same answer
answer_take : (id : List ℕ) → id_answer (take 12 id) ≡ id_answer id
unfolding id_answer good_id
answer_take id =
    ap₂ (λ (b : Bool) (v : ℕ). cond b (Ok v) (Err BadQuestion)) (all_take is_digit id 12 12 (le_refl 12)) (value_take id 12 12 (le_refl 12))

pub first_twelve : (a b : List ℕ) → take 12 a ≡ take 12 b → id_answer a ≡ id_answer b
first_twelve a b same = sym (answer_take a) ∙ ap id_answer same ∙ answer_take b

-- ---- read as one number: the value of the first k characters, or 36 ^ k, which no k characters have

read_cases : (k : ℕ) (id : List ℕ) (n : ℕ) (b : Bool) → first_all is_digit k id ≡ b → n ≡ cond b (value_of k id) (36 ^ k)
    → (n ≡ 36 ^ k → b ≡ false) × (n ≢ 36 ^ k → (b ≡ true) × (n ≡ value_of k id))
read_cases k id n true good is = ((λ none. absurd (omega (arith, value_below id k good))), λ some. (refl, is))
read_cases k id n false bad is = ((λ none. refl), λ some. absurd (some is))

module _ (k : ℕ) (id : List ℕ) {n : ℕ} (is : n ≡ cond (first_all is_digit k id) (value_of k id) (36 ^ k)) where
  read_none : n ≡ 36 ^ k → first_all is_digit k id ≡ false
  read_none = (read_cases k id n (first_all is_digit k id) refl is).0

  read_some : n ≢ 36 ^ k → (first_all is_digit k id ≡ true) × (n ≡ value_of k id)
  read_some = (read_cases k id n (first_all is_digit k id) refl is).1

pub number_good : (id : List ℕ) → good_id id ≡ true → value_of 12 id ≡ number_of id
unfolding number_of
number_good id good = rw good

pub number_bad : (id : List ℕ) → good_id id ≡ false → no_value ≡ number_of id
unfolding number_of
number_bad id bad = rw bad

pub answer_none : (id : List ℕ) {n : ℕ} → n ≡ number_of id → n ≡ no_value → Err BadQuestion ≡ id_answer id
unfolding number_of good_id
answer_none id is none = sym (answer_bad id (read_none 12 id is none))

pub answer_some : (id : List ℕ) {n : ℕ} → n ≡ number_of id → n ≢ no_value → Ok n ≡ id_answer id
unfolding number_of good_id
answer_some id is some = ap Ok (read_some 12 id is some).1 ∙ sym (answer_good id (read_some 12 id is some).0)

value_cases : (id : List ℕ) (b : Bool) → good_id id ≡ b → is_value (cond b (value_of 12 id) no_value) ≡ b
unfolding good_id
value_cases id true good =
    let small : value_of 12 id < 36 ^ 12 = value_below id 12 good in
    simp (ne_eqb (value_of 12 id) no_value (λ e. omega arith))
value_cases id false bad = refl

-- an id keeps its rule exactly where its number is a value
pub value_good : (id : List ℕ) {number : ℕ} → number ≡ number_of id → is_value number ≡ good_id id
unfolding number_of
value_good id is = ap is_value is ∙ value_cases id (good_id id) refl

accepted : (b : Bool) (v : ℕ) → is_ok (cond b (Ok v) (Err BadQuestion)) ≡ b
accepted true v = refl
accepted false v = refl

-- the answer is a value exactly where the id is good
pub accepted_good : (id : List ℕ) {answer : Result ℕ Refusal} → answer ≡ id_answer id → is_ok answer ≡ good_id id
unfolding id_answer
accepted_good id is = ap is_ok is ∙ accepted (good_id id) (value_of 12 id)
