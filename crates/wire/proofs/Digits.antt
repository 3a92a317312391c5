-- A number and its bytes, for every width: number to bytes to number, and bytes to number to bytes.
-- Assumes nothing.
use mathlib.Core.Path.{◌≡◌, refl, ap, ◌∙◌, sym, subst}
use mathlib.Core.List.{List, [], ◌∷◌}
use Prim.Native.Nat.{ℕ, zero, suc, ◌+◌, ◌*◌, ◌/◌, ◌%◌, ◌^◌, ◌<◌}
use native.Mathlib.Nat.{mod-one, mod-lt, mod-eq_of_lt, div-one, pow-succ', mul_assoc, one-le-pow, zero-lt-suc, mul-add-div_right, mul-add-mod_self_right}
use native.Mathlib.Omega.{arith}
use lib.Arith.{mod-mul, digits_div, digits_lt}
use lib.ListN.{length}
use Rattle.wire.specs.Number.{num, byte_of, be, Bytes}

weight : (w : ℕ) → 0 < 256 ^ w
weight w = one-le-pow w 256 (zero-lt-suc 255)

byte_is : (w n : ℕ) → byte_of w n ≡ n / 256 ^ w % 256
byte_is zero n = sym (ap (λ (x : ℕ). x % 256) (div-one n))
byte_is (suc w) n = refl

byte_small : (w n : ℕ) → byte_of w n < 256
byte_small w n = rw (byte_is w n) (mod-lt (n / 256 ^ w) (zero-lt-suc 255))

pub length-be : (w n : ℕ) → length (be w n) ≡ w
length-be zero n = refl
length-be (suc w) n = ap suc (length-be w n)

pub be_bytes : (w n : ℕ) → Bytes (be w n)
be_bytes zero n = tt
be_bytes (suc w) n = (byte_small w n, be_bytes w n)

num_rest : (w n : ℕ) → num (be w n) ≡ n % 256 ^ w
num_rest zero n = sym (mod-one n)
num_rest (suc w) n =
    rw (length-be w n, num_rest w n, byte_is w n)
    (sym (ap (λ (x : ℕ). n % x) (pow-succ' 256 w) ∙ mod-mul n (zero-lt-suc 255) (weight w)))

-- number to bytes to number
pub num-be : (w n : ℕ) → n < 256 ^ w → num (be w n) ≡ n
num-be w n h = num_rest w n ∙ mod-eq_of_lt h

pub num_small : (bs : List ℕ) → Bytes bs → num bs < 256 ^ length bs
num_small [] h = omega arith
num_small (b ∷ bs) h =
    subst (λ (x : ℕ). b * 256 ^ length bs + num bs < x) (sym (pow-succ' 256 (length bs)))
    (digits_lt h.0 (num_small bs h.1))

-- what stands above w bytes does not show in them
pub be_low : (w q r : ℕ) → be w (q * 256 ^ w + r) ≡ be w r
be_low zero q r = refl
be_low (suc w) q r =
    let e : q * 256 ^ suc w ≡ q * 256 * 256 ^ w = ap (λ (x : ℕ). q * x) (pow-succ' 256 w) ∙ sym (mul_assoc q 256 (256 ^ w)) in
    let b : byte_of w (q * 256 * 256 ^ w + r) ≡ byte_of w r =
    byte_is w (q * 256 * 256 ^ w + r)
    ∙ ap (λ (x : ℕ). x % 256) (mul-add-div_right (weight w) (q * 256) r)
    ∙ mul-add-mod_self_right q 256 (r / 256 ^ w)
    ∙ sym (byte_is w r) in
    rw (e, b, be_low w (q * 256) r)

-- bytes to number to bytes
pub be-num : (bs : List ℕ) → Bytes bs → be (length bs) (num bs) ≡ bs
be-num [] h = refl
be-num (b ∷ bs) h =
    let top : byte_of (length bs) (b * 256 ^ length bs + num bs) ≡ b =
    byte_is (length bs) (b * 256 ^ length bs + num bs)
    ∙ ap (λ (x : ℕ). x % 256) (digits_div b (num_small bs h.1))
    ∙ mod-eq_of_lt h.0 in
    rw (top, be_low (length bs) b (num bs), be-num bs h.1)
