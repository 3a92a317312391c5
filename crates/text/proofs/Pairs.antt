-- Pairs of digits, one after the other.
-- Assumes nothing.
use mathlib.Core.Bool.{Bool, true, false, cond}
use mathlib.Core.Path.{◌≡◌, refl, ◌∙◌, sym}
use Rattle.std.proofs.Common.{None, Some}
use mathlib.Core.List.{List, [], ◌∷◌, ◌++◌, append_assoc, append-nil}
use Prim.Native.Nat.{ℕ, zero, suc, ◌+◌, ◌*◌, ◌≤◌, ◌<◌}
use native.Mathlib.Numerals.{add-one}
use native.Mathlib.Omega.{arith}
use borrow.Author.Tests.{lt-ltb, le-ltb, ne_eqb}
use lib.Dec.{eqb, ltb}
use lib.ListN.{length, get_or, set, take, drop, drop_of_length-le}
use lib.Seq.{drop-cons, take-suc-set}
use Rattle.text.specs.Hex.{pair_of, is_pairs, bytes_of, is_dash, is_bytes, Fills, Reads}

bytes_two : (a b : ℕ) (rest : List ℕ) → bytes_of (a ∷ b ∷ rest) ≡ pair_of a b ∷ bytes_of rest
unfolding bytes_of
bytes_two a b rest = refl

module _ (s : List ℕ) (k : ℕ) (there : k * 2 + 1 < length s) where
  two : drop (k * 2) s ≡ get_or s (k * 2) 0 ∷ get_or s (k * 2 + 1) 0 ∷ drop ((k + 1) * 2) s
  two =
      let first : k * 2 < length s = omega arith in
      let one : suc (k * 2) ≡ k * 2 + 1 = omega arith in
      let next : suc (k * 2 + 1) ≡ (k + 1) * 2 = omega arith in
      rw (drop-cons s (k * 2) 0 first, one, drop-cons s (k * 2 + 1) 0 there, next)

  module _ (p : ℕ) (is-p : p ≡ pair_of (get_or s (k * 2) 0) (get_or s (k * 2 + 1) 0)) where
    pub pairs_more : p < 256 → is_pairs (drop (k * 2) s) ≡ is_pairs (drop ((k + 1) * 2) s)
    unfolding is_pairs
    pairs_more small = rw two (simp (lt-ltb _ _ (rw is-p at small)))

    pub pairs_none : 256 ≤ p → is_pairs (drop (k * 2) s) ≡ false
    unfolding is_pairs
    pairs_none large = rw two (simp (le-ltb _ _ (rw is-p at large)))

    pub bytes_more : (out : List ℕ) → k < length out → take k out ++ bytes_of (drop (k * 2) s) ≡ take (k + 1) (set out k p) ++ bytes_of (drop ((k + 1) * 2) s)
    bytes_more out room =
        let more : take (k + 1) (set out k p) ≡ take k out ++ (p ∷ []) = rw (add-one k) (take-suc-set out k p room) in
        rw (two, bytes_two, ← is-p, more) (sym (append_assoc (take k out) (p ∷ []) (bytes_of (drop ((k + 1) * 2) s))))

pub pairs_all : (s : List ℕ) (k : ℕ) → length s ≤ k * 2 → is_pairs (drop (k * 2) s) ≡ true
unfolding is_pairs
pairs_all s k all = rw (drop_of_length-le s all)

pub bytes_all : (s : List ℕ) (k : ℕ) (out : List ℕ) → length s ≤ k * 2 → take k out ++ bytes_of (drop (k * 2) s) ≡ take k out
unfolding bytes_of
bytes_all s k out all = rw (drop_of_length-le s all) (append-nil (take k out))

-- an odd digit is left over
either : (t : Bool) (x : Bool) → x ≡ false → cond t x false ≡ false
either true x e = e
either false x e = refl

pub odd_none : (s : List ℕ) (k : ℕ) → length s ≡ k * 2 + 1 → is_pairs s ≡ false
unfolding is_pairs
odd_none [] k h = absurd (omega arith)
odd_none (a ∷ []) k h = refl
odd_none (a ∷ b ∷ rest) zero h = absurd (omega arith)
odd_none (a ∷ b ∷ rest) (suc k) h = either (ltb (pair_of a b) 256) (is_pairs rest) (odd_none rest k (omega arith))

few_none : (s : List ℕ) → length s ≤ 1 → false ≡ cond (eqb (length s) 0) false (is_pairs s)
unfolding is_pairs
few_none [] few = refl
few_none (a ∷ []) few = refl
few_none (a ∷ b ∷ rest) few = absurd (omega arith)

-- what a word is that is not `-`
module _ (s : List ℕ) (no-dash : is_dash s ≡ false) where
  pub too_few : length s ≤ 1 → false ≡ is_bytes s
  unfolding is_bytes
  too_few few = simp no-dash (few_none s few)

  pub by_pairs : 1 < length s → is_pairs s ≡ is_bytes s
  unfolding is_bytes
  by_pairs some =
      let other : length s ≡ 0 → ⊥ = λ e. omega arith in
      simp (no-dash, ne_eqb _ _ other)

dash_bytes : (s : List ℕ) → is_dash s ≡ true → [] ≡ bytes_of s
unfolding is_dash bytes_of
dash_bytes [] e = refl
dash_bytes (a ∷ []) e = refl
dash_bytes (a ∷ b ∷ rest) e = absurd (let z : ◌≡◌ {A = ℕ} 0 1 = cc in omega arith)

-- the answers: `-`, no bytes, too little room, and digits that filled it or did not
module _ (s : List ℕ) (room : ℕ) (new : List ℕ) where
  pub read_dash : is_dash s ≡ true → Reads s room (Some 0) new
  unfolding is_bytes
  read_dash dash = record { within = omega arith; good = λ fits. simp dash; bytes = dash_bytes s dash }

  pub read_none : false ≡ is_bytes s → Reads s room None new
  read_none bad = record { within = tt; good = λ fits. bad; bytes = tt }

  pub read_short : room * 2 < length s → Reads s room None new
  read_short short = record { within = tt; good = λ fits. absurd (omega arith); bytes = tt }

  pub read_filled : (count : ℕ) (filled : Bool) → count ≤ length new → Fills s count filled new → filled ≡ true → is_pairs s ≡ is_bytes s → Reads s room (Some count) new
  read_filled count filled within fills whole by =
      record { within = within; good = λ fits. sym whole ∙ fills.is ∙ by; bytes = fills.bytes whole }
