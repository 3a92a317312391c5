-- A part of bytes: its length, its bytes one by one, and its front.
-- Assumes nothing.
use mathlib.Core.Path.{◌≡◌, refl, ap, ap₂, ◌∙◌}
use mathlib.Core.List.{List, ◌∷◌}
use Prim.Native.Nat.{ℕ, zero, suc, ◌+◌, ◌≤◌, ◌<◌}
use native.Mathlib.Omega.{arith}
use lib.ListN.{length, get_or, take}
use Rattle.wire.specs.Number.{behind, part}

-- a part by its bytes
behind_at : (s : List ℕ) (at j n k : ℕ) → k < n → get_or (behind s at j n) k 0 ≡ get_or s (at + (j + k)) 0
behind_at s at j zero k h = absurd (omega arith)
behind_at s at j (suc n) zero h = let e : j ≡ j + 0 = omega arith in ap (λ (i : ℕ). get_or s (at + i) 0) e
behind_at s at j (suc n) (suc k) h = let e : suc j + k ≡ j + suc k = omega arith in behind_at s at (suc j) n k (omega arith) ∙ ap (λ (i : ℕ). get_or s (at + i) 0) e

pub part_at : (s : List ℕ) (at n k : ℕ) → k < n → get_or (part s at n) k 0 ≡ get_or s (at + k) 0
part_at s at zero k h = absurd (omega arith)
part_at s at (suc n) zero h = let e : at ≡ at + 0 = omega arith in ap (λ (i : ℕ). get_or s i 0) e
part_at s at (suc n) (suc k) h = let e : 1 + k ≡ suc k = omega arith in behind_at s at 1 n k (omega arith) ∙ ap (λ (i : ℕ). get_or s (at + i) 0) e

behind_long : (w : List ℕ) (at j n : ℕ) → length (behind w at j n) ≡ n
behind_long w at j zero = refl
behind_long w at j (suc n) = ap suc (behind_long w at (suc j) n)

pub part_long : (w : List ℕ) (at n : ℕ) → length (part w at n) ≡ n
part_long w at zero = refl
part_long w at (suc n) = ap suc (behind_long w at 1 n)

-- a shorter part is the front of a longer one
behind_front : (s : List ℕ) (at j n k : ℕ) → k ≤ n → take k (behind s at j n) ≡ behind s at j k
behind_front s at j n zero h = refl
behind_front s at j zero (suc k) h = absurd (omega arith)
behind_front s at j (suc n) (suc k) h = ap (λ (l : List ℕ). get_or s (at + j) 0 ∷ l) (behind_front s at (suc j) n k (omega arith))

pub part_front : (s : List ℕ) (at n k : ℕ) → k ≤ n → take k (part s at n) ≡ part s at k
part_front s at n zero h = refl
part_front s at zero (suc k) h = absurd (omega arith)
part_front s at (suc n) (suc k) h = ap (λ (l : List ℕ). get_or s at 0 ∷ l) (behind_front s at 1 n k (omega arith))

-- a part of a part
behind-part : (s : List ℕ) (start n at j k : ℕ) → at + j + k ≤ n → behind (part s start n) at j k ≡ behind s (start + at) j k
behind-part s start n at j zero h = refl
behind-part s start n at j (suc k) h =
    let e : start + (at + j) ≡ start + at + j = omega arith in
    ap₂ (λ (b : ℕ) (l : List ℕ). b ∷ l) (part_at s start n (at + j) (omega arith) ∙ ap (λ (i : ℕ). get_or s i 0) e) (behind-part s start n at (suc j) k (omega arith))

pub part-part : (s : List ℕ) (start n at k : ℕ) → at + k ≤ n → part (part s start n) at k ≡ part s (start + at) k
part-part s start n at zero h = refl
part-part s start n at (suc k) h = ap₂ (λ (b : ℕ) (l : List ℕ). b ∷ l) (part_at s start n at (omega arith)) (behind-part s start n at 1 k (omega arith))
