-- Symbols by their two numbers: two of 14 bytes with the same two numbers are the same, byte for byte, and a good one has a first
-- number that is not 0.
-- Assumes nothing.
use mathlib.Core.Path.{◌≡◌, refl, ap, ap₂, ◌∙◌, sym, subst}
use mathlib.Core.Logic.{◌≢◌}
use mathlib.Core.Bool.{Bool, true, false, not, ◌&&◌, and-false}
use mathlib.Core.List.{List, ◌++◌}
use Prim.Native.Nat.{ℕ, ◌+◌, ◌*◌, ◌≤◌}
use native.Mathlib.Omega.{arith}
use borrow.Author.Tests.{eq-eqb, ne_eqb, eqb-true}
use lib.Dec.{eqb, lit<}
use lib.ListN.{length, get_or, take, drop, take-append-drop, length-drop}
use lib.Seq.{take_all, drop-drop}
use Rattle.wire.specs.Number.{num, be, part, Bytes}
use Rattle.wire.proofs.Digits.{be-num}
use Rattle.wire.proofs.Place.{part-is, length_part, part_bytes}
use Rattle.fields.specs.Rules.{good_symbol, is_printable}
use Rattle.fields.specs.Tests.{first_all}
use Rattle.fields.proofs.Tests.{and_left, and_right, in_range, all_fail}
use Rattle.book.specs.Lookup.{front_of, back_of, same_symbol, same_parts, Apart}
use Rattle.book.specs.declared.lookup.Parts.{Parts}
use Rattle.book.proofs.Types.{no, split}

-- eight bytes with the same number are the same
eight : (a b : List ℕ) (at : ℕ) → Bytes a → Bytes b → at + 8 ≤ length a → at + 8 ≤ length b → num (part a at 8) ≡ num (part b at 8) → part a at 8 ≡ part b at 8
eight a b at ba bb fits fits₂ e =
    sym (back a ba fits) ∙ ap (be 8) e ∙ back b bb fits₂
  where
    back : (x : List ℕ) → Bytes x → at + 8 ≤ length x → be 8 (num (part x at 8)) ≡ part x at 8
    back x bx h = subst (λ (k : ℕ). be k (num (part x at 8)) ≡ part x at 8) (length_part x at 8 h) (be-num (part x at 8) (part_bytes x at 8 bx))

-- 14 bytes from their first eight and their last eight
whole : (x : List ℕ) → length x ≡ 14 → x ≡ part x 0 8 ++ drop 2 (part x 6 8)
whole x l =
    let p : part x 0 8 ≡ take 8 x = part-is x 0 8 (omega arith) in
    let short : length (drop 6 x) ≤ 8 = simp length-drop (omega arith) in
    let q : part x 6 8 ≡ drop 6 x = part-is x 6 8 (omega arith) ∙ take_all 8 (drop 6 x) short in
    let r : drop 2 (drop 6 x) ≡ drop 8 x = drop-drop 2 6 x in
    sym (ap₂ ◌++◌ p (ap (drop 2) q ∙ r) ∙ take-append-drop 8 x)

-- symbols with the same two numbers are both like a third, or neither is
module _ (a b : List ℕ) (same : same_symbol a b ≡ true) where
  pub fronts_same : front_of a ≡ front_of b
  unfolding same_symbol
  fronts_same = eqb-true (front_of a) (front_of b) (and_left (eqb (front_of a) (front_of b)) (eqb (back_of a) (back_of b)) same)

  pub backs_same : back_of a ≡ back_of b
  unfolding same_symbol
  backs_same = eqb-true (back_of a) (back_of b) (and_right (eqb (front_of a) (front_of b)) (eqb (back_of a) (back_of b)) same)

  pub alike : (c : List ℕ) → same_symbol a c ≡ same_symbol b c
  unfolding same_symbol
  alike c = ap₂ (λ (x y : ℕ). eqb x (front_of c) && eqb y (back_of c)) fronts_same backs_same

  pub alike_to : (c : List ℕ) → same_symbol c a ≡ same_symbol c b
  unfolding same_symbol
  alike_to c = ap₂ (λ (x y : ℕ). eqb (front_of c) x && eqb (back_of c) y) fronts_same backs_same

module _ (a b : List ℕ) where
  pub same_bytes : Bytes a → Bytes b → length a ≡ 14 → length b ≡ 14 → same_symbol a b ≡ true → a ≡ b
  same_bytes ba bb la lb e =
      let p = eight a b 0 ba bb (omega arith) (omega arith) (fronts_same a b e) in
      let q = eight a b 6 ba bb (omega arith) (omega arith) (backs_same a b e) in
      whole a la ∙ ap₂ ◌++◌ p (ap (drop 2) q) ∙ sym (whole b lb)

  -- so another symbol differs in a number
  pub other_bytes : Bytes a → Bytes b → length a ≡ 14 → length b ≡ 14 → a ≢ b → same_symbol a b ≡ false
  other_bytes ba bb la lb n = by (same_symbol a b) refl
    where
      by : (x : Bool) → same_symbol a b ≡ x → x ≡ false
      by true e = absurd (n (same_bytes ba bb la lb e))
      by false e = refl

  pub bytes_same : a ≡ b → same_symbol a b ≡ true
  unfolding same_symbol
  bytes_same e = simp (eq-eqb _ _ (ap front_of e), eq-eqb _ _ (ap back_of e))

-- ---- three parts that share no byte serve as well

-- bytes 6 and 7 are the end of the first number and the beginning of the last
first_split : (s : List ℕ) → front_of s ≡ num (part s 0 6) * 65536 + num (part s 6 2)
first_split s = omega arith

last_split : (s : List ℕ) → back_of s ≡ num (part s 6 2) * 281474976710656 + (num (part s 8 4) * 65536 + num (part s 12 2))
last_split s = omega arith

-- a number of more than 16 bits and its last 16
halves : (h h₂ l l₂ : ℕ) → l ≤ 65535 → l₂ ≤ 65535 → h * 65536 + l ≡ h₂ * 65536 + l₂ → (h ≡ h₂) × (l ≡ l₂)
halves h h₂ l l₂ b b₂ e = (omega arith, omega arith)

module _ (a b : List ℕ) {p q : Parts} (pa : Apart a p) (qb : Apart b q) where
  low_same : p.first ≡ q.first → num (part a 6 2) ≡ num (part b 6 2)
  low_same e = (halves (num (part a 0 6)) (num (part b 0 6)) (num (part a 6 2)) (num (part b 6 2)) pa.low qb.low (sym (first_split a) ∙ sym pa.first ∙ e ∙ qb.first ∙ first_split b)).1

  all_same : p.first ≡ q.first → p.middle ≡ q.middle → p.last ≡ q.last → same_symbol a b ≡ true
  unfolding same_symbol
  all_same e f g =
      let front : front_of a ≡ front_of b = sym pa.first ∙ e ∙ qb.first in
      let m : num (part a 8 4) ≡ num (part b 8 4) = sym pa.middle ∙ f ∙ qb.middle in
      let l : num (part a 12 2) ≡ num (part b 12 2) = sym pa.last ∙ g ∙ qb.last in
      let back : back_of a ≡ back_of b = last_split a ∙ (λ i. low_same e i * 281474976710656 + (m i * 65536 + l i)) ∙ sym (last_split b) in
      simp (eq-eqb _ _ front, eq-eqb _ _ back)

  ends_same : p.first ≡ q.first → back_of a ≡ back_of b → (p.middle ≡ q.middle) × (p.last ≡ q.last)
  ends_same e back =
      let six : num (part a 8 4) * 65536 + num (part a 12 2) ≡ num (part b 8 4) * 65536 + num (part b 12 2) =
      rest (num (part a 6 2)) (num (part b 6 2)) (num (part a 8 4) * 65536 + num (part a 12 2)) (num (part b 8 4) * 65536 + num (part b 12 2)) (low_same e) (sym (last_split a) ∙ back ∙ last_split b) in
      let h = halves (num (part a 8 4)) (num (part b 8 4)) (num (part a 12 2)) (num (part b 12 2)) pa.short qb.short six in
      (pa.middle ∙ h.0 ∙ sym qb.middle, pa.last ∙ h.1 ∙ sym qb.last)
    where
      rest : (l l₂ r r₂ : ℕ) → l ≡ l₂ → l * 281474976710656 + r ≡ l₂ * 281474976710656 + r₂ → r ≡ r₂
      rest l l₂ r r₂ e f = omega arith

  not_same : (p.first ≡ q.first → p.middle ≡ q.middle → p.last ≡ q.last → ⊥) → same_symbol a b ≡ false
  not_same n = by (same_symbol a b) refl
    where
      by : (x : Bool) → same_symbol a b ≡ x → x ≡ false
      by false e = refl
      by true e =
          let first : p.first ≡ q.first = pa.first ∙ fronts_same a b e ∙ sym qb.first in
          let ends = ends_same first (backs_same a b e) in
          absurd (n first ends.0 ends.1)

  pub same_apart : same_parts p q ≡ same_symbol a b
  unfolding same_parts
  same_apart =
      split p.first q.first
      (λ e. split p.middle q.middle
      (λ f. split p.last q.last
      (λ g. simp (eq-eqb _ _ e, eq-eqb _ _ f, eq-eqb _ _ g) (sym (all_same e f g)))
      (λ g. simp (ne_eqb _ _ g, and-false) (sym (not_same (λ x y z. g z)))))
      (λ f. simp (ne_eqb _ _ f, and-false) (sym (not_same (λ x y z. f y)))))
      (λ e. simp (ne_eqb _ _ e) (sym (not_same (λ x y z. e x))))

-- a good symbol begins with no zero byte, so its first number is not 0
pub fronted : (symbol : List ℕ) → good_symbol symbol ≡ true → front_of symbol ≢ 0
unfolding good_symbol
fronted symbol good e = by (is_printable (get_or symbol 0 0)) refl
  where
    by : (b : Bool) → is_printable (get_or symbol 0 0) ≡ b → ⊥
    by true p = let r = in_range 0x20 0x7E (get_or symbol 0 0) p in omega arith
    by false p = no (sym (all_fail is_printable symbol 0 14 (lit< tt) p) ∙ and_left (first_all is_printable 14 symbol) (not (eqb (get_or symbol 0 0) 0x20)) good)
