-- Laws of reading on, four characters at a time.
use Rattle.std.proofs.Common.{◌≡◌, ℕ, suc, ◌+◌, ◌-◌, ◌*◌, ◌/◌, ◌^◌, ◌<◌, ◌≤◌, Bool, true, false, ◌&&◌, eqb, ◌≢◌, List, sym, refl, ap, ◌∙◌, ap₂, lt_of_lt_of_le, pow-suc, arith, lit<, lit≤, eq-eqb, ne_eqb, eqb-true}
use native.Mathlib.Nat.{pow-le-pow_right}
use native.Mathlib.Numerals.{unary_clauses}
use lib.Arith.{digits_lt}
use lib.Bits.{bit_or}
use Rattle.fields.specs.Tests.{first_all}
use Rattle.fields.specs.Id.{is_digit, good_id, value_of, no_value, number_of}
use Rattle.fields.specs.Four.{chars_of, digits_of, four_from, four_of, most_four, Begun}
use Rattle.fields.proofs.Tests.{and_left, and_right}
use Rattle.fields.proofs.Ids.{number_good, number_bad}
use Rattle.fields.proofs.Four.{or-none, exactly, value_is}

and_four : (f a b c d : Bool) → ((((f && a) && b) && c) && d) ≡ (f && ((((true && a) && b) && c) && d))
and_four true a b c d = refl
and_four false a b c d = refl

good_four : (id : List ℕ) (k : ℕ) → first_all is_digit (k + 4) id ≡ (first_all is_digit k id && first_all is_digit 4 (four_from id k))
unfolding first_all
good_four id k = simp unary_clauses (and_four (first_all is_digit k id) _ _ _ _)

value_four : (id : List ℕ) (k : ℕ) → value_of (k + 4) id ≡ value_of k id * 36 ^ 4 + value_of 4 (four_from id k)
unfolding value_of
value_four id k = simp unary_clauses (omega arith)

-- nothing was missed before nor now
or-zero : (x y : ℕ) → eqb (bit_or x y) 0 ≡ (eqb x 0 && eqb y 0)
or-zero x y =
    exactly (bit_or x y) (eqb x 0 && eqb y 0)
    (λ none. let (a, b) = or-none x y none in ap₂ ◌&&◌ (eq-eqb x 0 a) (eq-eqb y 0 b))
    (λ both. ap₂ bit_or (eqb-true x 0 (and_left (eqb x 0) (eqb y 0) both)) (eqb-true y 0 (and_right (eqb x 0) (eqb y 0) both)))

pub begun_none : (id : List ℕ) → Begun id 12 0 0
unfolding first_all value_of
begun_none id = record { few = lit≤ tt; groups = refl; below = lit< tt; good = refl; value = λ good. refl }

module _ {id : List ℕ} {left sofar missed : ℕ} (begun : Begun id left sofar missed) where
  module _ (done : left ≡ 0) where
    all : 12 - left ≡ 12
    all = omega arith

    pub begun_done : missed ≡ 0 → sofar ≡ number_of id
    unfolding good_id
    begun_done none =
        let good : first_all is_digit (12 - left) id ≡ true = sym begun.good ∙ eq-eqb missed 0 none in
        begun.value good ∙ ap (λ (k : ℕ). value_of k id) all ∙ number_good id (rw all at good)

    pub begun_bad : missed ≢ 0 → no_value ≡ number_of id
    unfolding good_id
    begun_bad some = number_bad id (rw all at (sym begun.good ∙ ne_eqb missed 0 some))

  -- four characters more
  module _ (more : left ≢ 0) {text value : ℕ} (small : text < 2 ^ 32) (chars : chars_of text ≡ four_from id (12 - left)) (worth : value ≡ four_of (digits_of text)) where
    four_more : 12 - (left - 4) ≡ 12 - left + 4
    four_more = omega (arith, begun.few, begun.groups)

    good_read : first_all is_digit (12 - (left - 4)) id ≡ (first_all is_digit (12 - left) id && first_all is_digit 4 (chars_of text))
    good_read = rw (four_more, chars) (good_four id (12 - left))

    below : value < most_four
    below = omega (arith, worth)

    pub begun_fits : sofar * 36 ^ 4 + value < 2 ^ 64
    begun_fits =
        let few : (12 - left) / 4 ≤ 2 = omega (arith, begun.few, begun.groups) in
        let most : sofar < most_four ^ 2 = lt_of_lt_of_le begun.below (pow-le-pow_right (lit< tt) few) in
        omega (arith, below)

    below_more : sofar * 36 ^ 4 + value < most_four ^ ((12 - (left - 4)) / 4)
    below_more =
        let step : (12 - (left - 4)) / 4 ≡ suc ((12 - left) / 4) = omega (arith, begun.few, begun.groups) in
        let wider : sofar * most_four + value < most_four ^ ((12 - left) / 4) * most_four = digits_lt begun.below below in
        let power : most_four ^ ((12 - (left - 4)) / 4) ≡ most_four ^ ((12 - left) / 4) * most_four =
        ap (λ (k : ℕ). most_four ^ k) step ∙ pow-suc most_four ((12 - left) / 4) in
        omega arith

    value_more : first_all is_digit (12 - (left - 4)) id ≡ true → sofar * 36 ^ 4 + value ≡ value_of (12 - (left - 4)) id
    value_more good =
        let both = sym good_read ∙ good in
        let front = begun.value (and_left (first_all is_digit (12 - left) id) (first_all is_digit 4 (chars_of text)) both) in
        let back = worth ∙ value_is text small (and_right (first_all is_digit (12 - left) id) (first_all is_digit 4 (chars_of text)) both) ∙ ap (value_of 4) chars in
        ap₂ (λ (v w : ℕ). v * 36 ^ 4 + w) front back ∙ sym (value_four id (12 - left)) ∙ ap (λ (k : ℕ). value_of k id) (sym four_more)

    pub begun_more : (misses : ℕ) → eqb misses 0 ≡ first_all is_digit 4 (chars_of text) → Begun id (left - 4) (sofar * 36 ^ 4 + value) (bit_or missed misses)
    begun_more misses missing = record {
      few = omega (arith, begun.few);
      groups = omega (arith, begun.groups);
      below = below_more;
      good = or-zero missed misses ∙ ap₂ ◌&&◌ begun.good missing ∙ sym good_read;
      value = value_more;
    }
