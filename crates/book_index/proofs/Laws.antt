-- Laws for those who keep an index: its size, the empty one, and that of distinct keys the last place that has a key is the first.
-- Assumes nothing.
use mathlib.Core.Path.{◌≡◌, refl, sym, ap, ◌∙◌}
use mathlib.Core.Logic.{◌≢◌}
use mathlib.Core.List.{List, [], ◌∷◌, map}
use Prim.Native.Nat.{ℕ, zero, suc, ◌+◌, ◌-◌, ◌≤◌, ◌<◌}
use native.Mathlib.Omega.{arith}
use borrow.Author.Tests.{eqb-true, eqb-false}
use lib.Dec.{eqb}
use lib.ListN.{length, get_or, take, set, replicate, length-replicate, get_or-replicate, length-map, get_or-map}
use lib.Seq.{ext_get_or}
use Rattle.book_index.specs.Chains.{below, chain_of, chain_at, cell_of, index_by, index_of, last_at, place_of, first_from, Distinct}
use Rattle.book_index.specs.Changes.{without}
use Rattle.book_index.proofs.Below.{pick, order, only}
use Rattle.book_index.proofs.Cells.{cell_on, cell_off}
use Rattle.book_index.proofs.Chained.{of_place, of_head, length_by, by_at}

pub length_index : (ids : List ℕ) → length (index_of ids) ≡ 765
unfolding index_of
length_index ids = length_by (map chain_of ids)

pub size_of : {index : List ℕ} (ids : List ℕ) → index ≡ index_of ids → length index ≡ 765
size_of ids is = ap length is ∙ length_index ids

-- ---- no order is live

empty_cell : (cell : ℕ) → cell < 765 → cell_of (chain_at []) cell ≡ 0
empty_cell cell h = order cell 256 place head
  where
    free : (c : ℕ) → c < cell → chain_at [] c ≢ cell - 256
    free c l e =
        order c 256
        (λ q. let z = of_place [] c q in omega arith)
        (λ q. let z = of_head [] c q in omega arith)

    place : cell < 256 → cell_of (chain_at []) cell ≡ 0
    place l = let z = of_place [] cell l in cell_off (chain_at []) cell (omega arith)

    head : 256 ≤ cell → cell_of (chain_at []) cell ≡ 0
    head l =
        cell_on (chain_at []) cell (of_head [] cell l) (omega arith)
        ∙ only (chain_at []) (cell - 256)
        (record { most = omega arith; there = λ q. absurd (omega arith); free = λ c q m. free c m })

pub index_empty : index_of [] ≡ replicate 765 0
unfolding index_of
index_empty =
    ext_get_or 0 (index_by []) (replicate 765 0) (length_by [] ∙ sym (length-replicate {A = ℕ} 765 0))
    (λ i h.
    let l : i < 765 = rw length_by at h in
    by_at [] i l ∙ empty_cell i l ∙ sym (get_or-replicate 765 i 0 0 l))

-- ---- the first place and the last

-- the first of n numbers at which f is v, plus 1 and counted from k on, by what it is
pub record First (f : ℕ → ℕ) (v k n r : ℕ) : Type 0 where
  most : r ≤ k + n
  low : 0 < r → k < r
  there : 0 < r → f (r - 1 - k) ≡ v
  none : r ≡ 0 → (p : ℕ) → p < n → f p ≢ v

module _ (f : ℕ → ℕ) (v k : ℕ) where
  pub first_none : First f v k 0 0
  first_none =
      record { most = omega arith; low = λ h. absurd (omega arith); there = λ h. absurd (omega arith); none = λ e p h. absurd (omega arith) }

  pub first_here : (n : ℕ) → f 0 ≡ v → First f v k (suc n) (suc k)
  first_here n e =
      let back : suc k - 1 - k ≡ 0 = omega arith in
      record { most = omega arith; low = λ h. omega arith; there = λ h. rw back e; none = λ z. absurd (omega arith) }

  pub first_on : (n r : ℕ) → f 0 ≢ v → First (λ p. f (suc p)) v (suc k) n r → First f v k (suc n) r
  first_on n r e x =
      let most : r ≤ suc k + n = x.most in
      record {
        most = omega arith;
        low = λ h. let q : suc k < r = x.low h in omega arith;
        there = λ h. let q : suc k < r = x.low h in let back : r - 1 - k ≡ suc (r - 1 - suc k) = omega arith in rw back (x.there h);
        none = λ z. rest (x.none z);
      }
    where
      rest : ((p : ℕ) → p < n → f (suc p) ≢ v) → (p : ℕ) → p < suc n → f p ≢ v
      rest g zero h = e
      rest g (suc p) h = g p (omega arith)

-- where f is v at one number at most, the first is the last
module _ (f : ℕ → ℕ) (v n : ℕ) (once : (i j : ℕ) → i < j → j < n → f i ≡ v → f j ≢ v) where
  pub first_last : (r : ℕ) → First f v 0 n r → below f v n ≡ r
  first_last r x = only f v (record { most = most; there = there; free = free })
    where
      most : r ≤ n
      most = let m : r ≤ 0 + n = x.most in omega arith

      there : 0 < r → f (r - 1) ≡ v
      there h = let back : r - 1 - 0 ≡ r - 1 = omega arith in rw back at (x.there h)

      free : (p : ℕ) → r ≤ p → p < n → f p ≢ v
      free p l h =
          order 0 r
          (λ q. once (r - 1) p (omega arith) h (there q))
          (λ q. x.none (omega arith) p h)

first_is : (k key : ℕ) (xs : List ℕ) → First (λ p. get_or xs p 0) key k (length xs) (first_from k key xs)
unfolding first_from
first_is k key [] = first_none (λ (p : ℕ). get_or [] p 0) key k
first_is k key (x ∷ xs) =
    let f : ℕ → ℕ = λ p. get_or (x ∷ xs) p 0 in
    pick (First f key k (suc (length xs))) (eqb x key)
    (λ e. first_here f key k (length xs) (eqb-true x key e))
    (λ e. first_on f key k (length xs) (first_from (suc k) key xs) (eqb-false x key e) (first_is (suc k) key xs))

pub last_first : (key : ℕ) (ids : List ℕ) → Distinct ids → last_at key ids ≡ place_of (first_from 0 key ids)
unfolding last_at
last_first key ids distinct =
    ap place_of
    (first_last (λ (p : ℕ). get_or ids p 0) key (length ids) (λ i j l h e z. distinct i j l h (e ∙ sym z)) (first_from 0 key ids) (first_is 0 key ids))

-- ---- a removal goes through a map

map-take : {A B : Type 0} (f : A → B) (n : ℕ) (xs : List A) → map f (take n xs) ≡ take n (map f xs)
map-take f zero xs = refl
map-take f (suc n) [] = refl
map-take f (suc n) (x ∷ xs) = ap (λ l. f x ∷ l) (map-take f n xs)

map-set : {A B : Type 0} (f : A → B) (xs : List A) (i : ℕ) (a : A) → map f (set xs i a) ≡ set (map f xs) i (f a)
map-set f [] i a = refl
map-set f (x ∷ xs) zero a = refl
map-set f (x ∷ xs) (suc i) a = ap (λ l. f x ∷ l) (map-set f xs i a)

pub map-without : {A B : Type 0} (f : A → B) (blank : A) (place : ℕ) (xs : List A)
    → map f (without blank place xs) ≡ without (f blank) place (map f xs)
unfolding without
map-without f blank place xs =
    map-take f (length xs - 1) (set xs place (get_or xs (length xs - 1) blank))
    ∙ ap (take (length xs - 1)) (map-set f xs place (get_or xs (length xs - 1) blank))
    ∙ simp (length-map, ← get_or-map f xs (length xs - 1) blank)
