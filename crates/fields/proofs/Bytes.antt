-- Laws of four bytes side by side in one number: what is done to the number is done to each byte.
use Rattle.std.proofs.Common.{◌≡◌, ℕ, ◌+◌, ◌-◌, ◌*◌, ◌/◌, ◌%◌, ◌^◌, ◌<◌, ◌≤◌, sym, ap, ◌∙◌, mod-eq_of_lt, div-add-mod', arith, lit<, shr-shr}
use lib.Bits.{bit_and, and_block, and_high, and_mask, and_zero_r}

-- four bytes as one number, the first lowest
abbrev pub beside : ℕ → ℕ → ℕ → ℕ → ℕ
beside a b c d = ((d * 256 + c) * 256 + b) * 256 + a

-- each is below k
pub record Below (k a b c d : ℕ) : Type 0 where
  pub first : a < k
  pub second : b < k
  pub third : c < k
  pub fourth : d < k

pub wider : {j k a b c d : ℕ} → Below j a b c d → j ≤ k → Below k a b c d
wider below h = record { first = omega arith; second = omega arith; third = omega arith; fourth = omega arith }

module _ (j k : ℕ) {a b c d : ℕ} where
  pub raised : Below j a b c d → Below (j + k) (a + k) (b + k) (c + k) (d + k)
  raised below = record { first = omega arith; second = omega arith; third = omega arith; fourth = omega arith }

  pub lowered : Below (j + k) (a + k) (b + k) (c + k) (d + k) → Below j a b c d
  lowered below = record { first = omega arith; second = omega arith; third = omega arith; fourth = omega arith }

-- the number is these four bytes
pub record Four (a b c d n : ℕ) : Type 0 where
  pub bytes : Below 256 a b c d
  pub joined : n ≡ beside a b c d

-- any number of 32 bits is four bytes, and no other four
pub four_of_lem : (n : ℕ) → n < 2 ^ 32 → Four (n % 256) (n / 256 % 256) (n / 65_536 % 256) (n / 16_777_216 % 256) n
four_of_lem n h =
    let low : n / 256 * 256 + n % 256 ≡ n = div-add-mod' n 256 in
    let second : n / 65_536 * 256 + n / 256 % 256 ≡ n / 256 =
    ap (λ (m : ℕ). m * 256 + n / 256 % 256) (sym (shr-shr n 8 8)) ∙ div-add-mod' (n / 256) 256 in
    let third : n / 16_777_216 * 256 + n / 65_536 % 256 ≡ n / 65_536 =
    ap (λ (m : ℕ). m * 256 + n / 65_536 % 256) (sym (shr-shr n 16 8)) ∙ div-add-mod' (n / 65_536) 256 in
    let top : n / 16_777_216 % 256 ≡ n / 16_777_216 = mod-eq_of_lt (omega arith) in
    record { bytes = record { first = omega arith; second = omega arith; third = omega arith; fourth = omega arith }; joined = omega arith }

pub same_four : {a b c d e f g h n : ℕ} → Four a b c d n → Four e f g h n → (a ≡ e) × (b ≡ f) × (c ≡ g) × (d ≡ h)
same_four p q = (omega arith, omega arith, omega arith, omega arith)

module _ {a b c d n : ℕ} (four : Four a b c d n) where
  pub four_small : n < 2 ^ 32
  four_small = omega arith

  -- a mask, byte by byte
  and_each : (w x y z : ℕ) → w < 256 → x < 256 → y < 256 → bit_and n (beside w x y z) ≡ beside (bit_and a w) (bit_and b x) (bit_and c y) (bit_and d z)
  and_each w x y z hw hx hy =
      ap (λ (m : ℕ). bit_and m (beside w x y z)) four.joined
      ∙ and_block 8 _ _ a w four.bytes.first hw
      ∙ ap (λ (m : ℕ). m * 256 + bit_and a w)
      (and_block 8 _ _ b x four.bytes.second hx ∙ ap (λ (m : ℕ). m * 256 + bit_and b x) (and_block 8 d z c y four.bytes.third hy))

  -- the bit of 64 of each byte
  pub sixties_are : bit_and n 0x4040_4040 / 64 ≡ beside (a / 64 % 2) (b / 64 % 2) (c / 64 % 2) (d / 64 % 2)
  sixties_are =
      ap (λ (m : ℕ). m / 64) (and_each 64 64 64 64 (lit< tt) (lit< tt) (lit< tt))
      ∙ rw (and_high a 1 6, and_high b 1 6, and_high c 1 6, and_high d 1 6) (omega arith)

  -- the highest bit of each byte
  pub tops_are : Four (a / 128 * 128) (b / 128 * 128) (c / 128 * 128) (d / 128 * 128) (bit_and n 0x8080_8080)
  tops_are = record {
    bytes = record { first = omega arith; second = omega arith; third = omega arith; fourth = omega arith };
    joined =
        and_each 128 128 128 128 (lit< tt) (lit< tt) (lit< tt)
        ∙ rw (and_high a 1 7, and_high b 1 7, and_high c 1 7, and_high d 1 7) (omega arith);
  }

  -- no byte has it exactly if each is below 128
  pub tops_none : Below 128 a b c d → bit_and n 0x8080_8080 ≡ 0
  tops_none below = let are = tops_are.joined in omega arith

  pub none_tops : bit_and n 0x8080_8080 ≡ 0 → Below 128 a b c d
  none_tops none = let are = tops_are.joined in record { first = omega arith; second = omega arith; third = omega arith; fourth = omega arith }

  -- the other bits of each byte, doubled
  pub doubled_are : Four (a % 128 * 2) (b % 128 * 2) (c % 128 * 2) (d % 128 * 2) (bit_and n 0x7f7f_7f7f * 2)
  doubled_are = record {
    bytes = record { first = omega arith; second = omega arith; third = omega arith; fourth = omega arith };
    joined =
        ap (λ (m : ℕ). m * 2) (and_each 127 127 127 127 (lit< tt) (lit< tt) (lit< tt))
        ∙ rw (and_mask a 7, and_mask b 7, and_mask c 7, and_mask d 7) (omega arith);
  }

  -- six bits of every second byte
  pub firsts_are : bit_and n 0x003f_003f ≡ beside (a % 64) 0 (c % 64) 0
  firsts_are = and_each 63 0 63 0 (lit< tt) (lit< tt) (lit< tt) ∙ rw (and_mask a 6, and_mask c 6, and_zero_r b, and_zero_r d)

  pub seconds_are : bit_and n 0x3f00_3f00 ≡ beside 0 (b % 64) 0 (d % 64)
  seconds_are = and_each 0 63 0 63 (lit< tt) (lit< tt) (lit< tt) ∙ rw (and_mask b 6, and_mask d 6, and_zero_r a, and_zero_r c)

  -- what is added to each byte and fits it
  pub added : (k : ℕ) → Below (256 - k) a b c d → Four (a + k) (b + k) (c + k) (d + k) ((n + 0x0101_0101 * k) % 2 ^ 32)
  added k below = record {
    bytes = record { first = omega arith; second = omega arith; third = omega arith; fourth = omega arith };
    joined = omega (arith, four.joined);
  }
