-- Laws of four characters side by side: their digits, what is missed, their value.
use Rattle.std.proofs.Common.{◌≡◌, ℕ, ◌+◌, ◌-◌, ◌*◌, ◌/◌, ◌%◌, ◌^◌, ◌<◌, ◌≤◌, Bool, true, false, cond, ◌||◌, eqb, [], ◌∷◌, sym, refl, ap, ◌∙◌, ap₂, ⊎_elim, true≢false, mod-lt, eq-zero-or-pos, arith, lit<, lit≤, eq-eqb, ne_eqb, le-leb}
use mathlib.Core.Bool.{or-true}
use lib.Bits.{bit_and, bit_or, bit_xor, or_add_and, xor_add_and, xor_self, and_le_l, and_le_r}
use Rattle.fields.specs.Tests.{between, first_all}
use Rattle.fields.specs.Id.{is_numeral, is_capital, is_digit, digit_of, value_of}
use Rattle.fields.specs.Four.{chars_of, digits_of, four_of}
use Rattle.fields.proofs.Tests.{all-before, all_last, in_range}
use Rattle.fields.proofs.Bytes.{beside, wider, raised, lowered, Below, Four, four_of_lem, four_small, same_four, sixties_are, tops_are, tops_none, none_tops, doubled_are, firsts_are, seconds_are, added}

pub chars_are : {a b c d n : ℕ} → Four a b c d n → chars_of n ≡ a ∷ b ∷ c ∷ d ∷ []
chars_are {n = n} four = let (a, b, c, d) = same_four (four_of_lem n (four_small four)) four in λ i. a i ∷ b i ∷ c i ∷ d i ∷ []

-- four bytes, widened, add up to the number
pub summed : (a b c d : ℕ) {v w x y : ℕ} → (v ≡ a) × (v ≤ 255) → (w ≡ b) × (w ≤ 255) → (x ≡ c) × (x ≤ 255) → (y ≡ d) × (y ≤ 255)
    → chars_of (v + w * 256 + x * 65_536 + y * 16_777_216) ≡ a ∷ b ∷ c ∷ d ∷ []
summed a b c d ha hb hc hd =
    chars_are (record { bytes = record { first = omega arith; second = omega arith; third = omega arith; fourth = omega arith }; joined = omega arith })

-- ---- one character

-- the bit that capitals have and numerals have not
abbrev pub letter : ℕ → ℕ
letter x = x / 64 % 2

-- x is the character of the digit p: 48 more, and 7 more again from 10 on, which are the letters
pub record Spells (x p : ℕ) : Type 0 where
  pub is : x ≡ p + 48 + letter x * 7
  pub digit : p < 36
  pub ten : (p + 118) / 128 ≡ letter x

spelt : (x : ℕ) (n a : Bool) → is_numeral x ≡ n → is_capital x ≡ a → n || a ≡ true → Spells x (cond n (x - 0x30) (cond a (x - 0x41 + 10) 36))
spelt x true a p q h = let r = in_range 0x30 0x39 x p in record { is = omega arith; digit = omega arith; ten = omega arith }
spelt x false true p q h = let r = in_range 0x41 0x5A x q in record { is = omega arith; digit = omega arith; ten = omega arith }
spelt x false false p q h = absurd (true≢false (sym h))

-- a digit's character spells it, and a character that spells one is a digit
pub digit_spelt : (x : ℕ) → is_digit x ≡ true → Spells x (digit_of x)
unfolding is_digit digit_of
digit_spelt x good = spelt x (is_numeral x) (is_capital x) refl refl good

spelt_digit : {x p : ℕ} → Spells x p → is_digit x ≡ true
unfolding is_digit between
spelt_digit {x} {p} s =
    ⊎_elim
    (λ numeral. let low : p < 10 = omega (arith, s.ten) in
    simp (le-leb 0x30 x (omega (arith, s.is)), le-leb x 0x39 (omega (arith, s.is))))
    (λ capital. let high : 10 ≤ p = omega (arith, s.ten) in
    simp (le-leb 0x41 x (omega (arith, s.is)), le-leb x 0x5A (omega (arith, s.is, s.digit)), or-true))
    (eq-zero-or-pos (letter x))

-- ---- four characters

record Spelt (a b c d p q r s : ℕ) : Type 0 where
  first : Spells a p
  second : Spells b q
  third : Spells c r
  fourth : Spells d s

all_digits : (a b c d : ℕ) {p q r s : ℕ} → Spelt a b c d p q r s → first_all is_digit 4 (a ∷ b ∷ c ∷ d ∷ []) ≡ true
unfolding first_all
all_digits a b c d all = simp (spelt_digit all.first, spelt_digit all.second, spelt_digit all.third, spelt_digit all.fourth)

digits_all : (a b c d : ℕ) → first_all is_digit 4 (a ∷ b ∷ c ∷ d ∷ []) ≡ true → Spelt a b c d (digit_of a) (digit_of b) (digit_of c) (digit_of d)
digits_all a b c d good =
    let cs = a ∷ b ∷ c ∷ d ∷ [] in
    let three = all-before is_digit cs 3 good in
    let two = all-before is_digit cs 2 three in
    record {
      first = digit_spelt a (all_last is_digit cs 0 (all-before is_digit cs 1 two));
      second = digit_spelt b (all_last is_digit cs 1 two);
      third = digit_spelt c (all_last is_digit cs 2 three);
      fourth = digit_spelt d (all_last is_digit cs 3 good);
    }

-- ---- the digits

less : (m k n : ℕ) → m ≡ n + k → m < 2 ^ 32 → (m + 2 ^ 32 - k) % 2 ^ 32 ≡ n
less m k n is small = let same : m + 2 ^ 32 - k ≡ n + 2 ^ 32 = omega arith in rw same (omega arith)

more : (m k n : ℕ) → (m + 2 ^ 32 - k) % 2 ^ 32 ≡ n → n + k < 2 ^ 32 → m < 2 ^ 32 → m ≡ n + k
more m k n is small fits = omega arith

pub wrapped : (m k n : ℕ) → k ≤ 2 ^ 32 → n < 2 ^ 32 → (n + k) % 2 ^ 32 ≡ m → n ≡ (m + 2 ^ 32 - k) % 2 ^ 32
wrapped m k n few small is = omega arith

-- what spells four digits, side by side
sums : (p q r s t u v w : ℕ) → beside p q r s + (0x3030_3030 + beside t u v w * 7) ≡ beside (p + 48 + t * 7) (q + 48 + u * 7) (r + 48 + v * 7) (s + 48 + w * 7)
sums p q r s t u v w = omega arith

byte : (x : ℕ) {p : ℕ} → p < 36 → p + 48 + letter x * 7 < 256
byte x h = omega arith

digits_small : (text : ℕ) → digits_of text < 2 ^ 32
unfolding digits_of
digits_small text = mod-lt _ (lit< tt)

module _ {a b c d p q r s text : ℕ} (four : Four a b c d text) where
  spelt_below : Spelt a b c d p q r s → Below 36 p q r s
  spelt_below all = record { first = all.first.digit; second = all.second.digit; third = all.third.digit; fourth = all.fourth.digit }

  -- of characters that spell digits, these digits
  spelt_digits : Spelt a b c d p q r s → Four p q r s (digits_of text)
  unfolding digits_of
  spelt_digits all = record {
    bytes = wider (spelt_below all) (lit≤ tt);
    joined =
        rw (sixties_are four)
        (less text _ (beside p q r s)
        (four.joined ∙ cc (all.first.is, all.second.is, all.third.is, all.fourth.is, sums p q r s (letter a) (letter b) (letter c) (letter d)))
        (four_small four));
  }

  -- digits below 36 and what spells them are the characters
  digits_spelt : Four p q r s (digits_of text) → Below 36 p q r s
      → Four (p + 48 + letter a * 7) (q + 48 + letter b * 7) (r + 48 + letter c * 7) (s + 48 + letter d * 7) text
  unfolding digits_of
  digits_spelt digits below =
      let k : ℕ = 0x3030_3030 + beside (letter a) (letter b) (letter c) (letter d) * 7 in
      let is : text ≡ beside p q r s + k = more text k (beside p q r s) (rw (sixties_are four) at digits.joined) (omega arith) (four_small four) in
      record {
        bytes = record { first = byte a below.first; second = byte b below.second; third = byte c below.third; fourth = byte d below.fourth };
        joined = is ∙ sums p q r s (letter a) (letter b) (letter c) (letter d);
      }

-- ---- what is missed

pub or-none : (x y : ℕ) → bit_or x y ≡ 0 → (x ≡ 0) × (y ≡ 0)
or-none x y none = let s = or_add_and x y in let l = and_le_l x y in let r = and_le_r x y in (omega arith, omega arith)

xor_none : (x y : ℕ) → bit_xor x y ≡ 0 → x ≡ y
xor_none x y none = let s = xor_add_and x y in let l = and_le_l x y in let r = and_le_r x y in omega arith

-- the four tests: 128 and more, 36 and more, 10 and more, a letter
abbrev tops_of : ℕ → ℕ
tops_of n = bit_and n 0x8080_8080

abbrev large_of : ℕ → ℕ
large_of digits = tops_of ((digits + 0x0101_0101 * 92) % 2 ^ 32)

abbrev tens_of : ℕ → ℕ
tens_of digits = tops_of ((digits + 0x0101_0101 * 118) % 2 ^ 32)

abbrev letters_of : ℕ → ℕ
letters_of text = tops_of (bit_and text 0x7f7f_7f7f * 2)

abbrev misses_of : ℕ → ℕ → ℕ
misses_of text digits = bit_or (bit_or (tops_of digits) (large_of digits)) (bit_xor (tens_of digits) (letters_of text))

-- from 10 on, and a letter, each as the highest bit of a byte
tens_letter : {x p : ℕ} → Spells x p → x < 256 → (p + 118) / 128 * 128 ≡ x % 128 * 2 / 128 * 128
tens_letter s h = omega (arith, s.ten)

letter_tens : (x p : ℕ) → x < 256 → (p + 118) / 128 * 128 ≡ x % 128 * 2 / 128 * 128 → (p + 118) / 128 ≡ letter x
letter_tens x p h e = omega arith

module _ {a b c d p q r s text : ℕ} (four : Four a b c d text) where
  -- four digits pass the tests
  misses_good : Spelt a b c d p q r s → misses_of text (digits_of text) ≡ 0
  misses_good all =
      let digits = spelt_digits four all in
      let below = spelt_below four all in
      let large = added digits 92 (wider below (lit≤ tt)) in
      let tens = added digits 118 (wider below (lit≤ tt)) in
      let bytes = four.bytes in
      let same : tens_of (digits_of text) ≡ letters_of text =
      (tops_are tens).joined
      ∙ rw (tens_letter all.first bytes.first, tens_letter all.second bytes.second, tens_letter all.third bytes.third, tens_letter all.fourth bytes.fourth)
      (sym (tops_are (doubled_are four)).joined) in
      ap₂ bit_or
      (ap₂ bit_or (tops_none digits (wider below (lit≤ tt))) (tops_none large (raised 36 92 below)))
      (ap (λ (m : ℕ). bit_xor m (letters_of text)) same ∙ xor_self (letters_of text))

  -- four characters that pass the tests spell the four digits
  misses_none : Four p q r s (digits_of text) → misses_of text (digits_of text) ≡ 0 → Spelt a b c d p q r s
  misses_none digits none =
      let (ors, xors) = or-none _ _ none in
      let (tops, large) = or-none _ _ ors in
      let low = none_tops digits tops in
      let below = lowered 36 92 (none_tops (added digits 92 (wider low (lit≤ tt))) large) in
      let tens = tops_are (added digits 118 (wider low (lit≤ tt))) in
      let (a₁, b₁, c₁, d₁) = same_four (rw (xor_none (tens_of (digits_of text)) (letters_of text) xors) at tens) (tops_are (doubled_are four)) in
      let (a₂, b₂, c₂, d₂) = same_four four (digits_spelt four digits below) in
      record {
        first = record { is = a₂; digit = below.first; ten = letter_tens a p four.bytes.first a₁ };
        second = record { is = b₂; digit = below.second; ten = letter_tens b q four.bytes.second b₁ };
        third = record { is = c₂; digit = below.third; ten = letter_tens c r four.bytes.third c₁ };
        fourth = record { is = d₂; digit = below.fourth; ten = letter_tens d s four.bytes.fourth d₁ };
      }

pub exactly : (m : ℕ) (good : Bool) → (m ≡ 0 → good ≡ true) → (good ≡ true → m ≡ 0) → eqb m 0 ≡ good
exactly m true to from = eq-eqb m 0 (from refl)
exactly m false to from = ne_eqb m 0 (λ none. true≢false (sym (to none)))

-- nothing is missed exactly if all four are digits
misses_are : (text : ℕ) → text < 2 ^ 32 → eqb (misses_of text (digits_of text)) 0 ≡ first_all is_digit 4 (chars_of text)
misses_are text h =
    exactly (misses_of text (digits_of text)) (first_all is_digit 4 (chars_of text))
    (λ none. all_digits _ _ _ _ (misses_none (four_of_lem text h) (four_of_lem (digits_of text) (digits_small text)) none))
    (λ good. misses_good (four_of_lem text h) (digits_all _ _ _ _ good))

-- the same of the tests one by one
pub misses_from : {text digits w large x tens letters tops : ℕ} → text < 2 ^ 32 → digits ≡ digits_of text
    → w ≡ (digits + 0x0101_0101 * 92) % 2 ^ 32 → large ≡ tops_of w → x ≡ (digits + 0x0101_0101 * 118) % 2 ^ 32 → tens ≡ tops_of x
    → letters ≡ letters_of text → tops ≡ tops_of digits
    → eqb (bit_or (bit_or tops large) (bit_xor tens letters)) 0 ≡ first_all is_digit 4 (chars_of text)
misses_from {text} h is w large x tens letters tops =
    ap (λ (m : ℕ). eqb m 0)
    (ap₂ bit_or
    (ap₂ bit_or (tops ∙ ap tops_of is) (large ∙ ap tops_of w ∙ ap large_of is))
    (ap₂ bit_xor (tens ∙ ap tops_of x ∙ ap tens_of is) letters))
    ∙ misses_are text h

-- ---- the value

-- six bits of a byte
six_bits : (n : ℕ) → n % 256 % 64 ≡ n % 64
six_bits n = omega arith

six : (x : ℕ) → x < 36 → x % 64 ≡ x
six x h = omega arith

value_of_lem : {p q r s n : ℕ} → Four p q r s n → Below 36 p q r s → four_of n ≡ ((p * 36 + q) * 36 + r) * 36 + s
value_of_lem {p} {q} {r} {s} {n} four below =
    let (p₁, q₁, r₁, s₁) = same_four (four_of_lem n (four_small four)) four in
    rw (
      ← six_bits n,
      ← six_bits (n / 256),
      ← six_bits (n / 65_536),
      ← six_bits (n / 16_777_216),
      p₁,
      q₁,
      r₁,
      s₁,
      six p below.first,
      six q below.second,
      six r below.third,
      six s below.fourth,
    )

value_steps : (p q r s : ℕ) → ((p * 36 + q) * 36 + r) * 36 + s ≡ 36 * (36 * (36 * (36 * 0 + p) + q) + r) + s
value_steps p q r s = omega arith

-- the value of four digits
pub value_is : (text : ℕ) → text < 2 ^ 32 → first_all is_digit 4 (chars_of text) ≡ true → four_of (digits_of text) ≡ value_of 4 (chars_of text)
unfolding value_of
value_is text h good =
    let four = four_of_lem text h in
    let all = digits_all _ _ _ _ good in
    value_of_lem (spelt_digits four all) (spelt_below four all) ∙ value_steps _ _ _ _

-- the digits by pairs
paired : (p q r s : ℕ) → beside p 0 r 0 * 36 + beside 0 q 0 s / 256 ≡ (p * 36 + q) + (r * 36 + s) * 65_536
paired p q r s = omega arith

pub pairs_are : (n : ℕ) → n < 2 ^ 32
    → bit_and n 0x003f_003f * 36 + bit_and n 0x3f00_3f00 / 256 ≡ (n % 64 * 36 + n / 256 % 64) + (n / 65_536 % 64 * 36 + n / 16_777_216 % 64) * 65_536
pairs_are n h =
    let four = four_of_lem n h in
    rw (firsts_are four, seconds_are four, six_bits n, six_bits (n / 256), six_bits (n / 65_536), six_bits (n / 16_777_216)) (paired _ _ _ _)
