-- The insides held: a symbol's two numbers are sought along the chain of the first; of symbols that are apart the last place found is
-- the first; and the index stays that of the first numbers as an inside comes.
-- Assumes nothing.
use mathlib.Core.Path.{◌≡◌, refl, sym, ap, ap₂, ◌∙◌}
use mathlib.Core.Logic.{◌≢◌}
use mathlib.Core.Bool.{Bool, true, false, cond, ◌&&◌}
use mathlib.Core.List.{List, [], ◌∷◌, ◌++◌}
use Prim.Native.Nat.{ℕ, suc, ◌+◌, ◌≤◌, ◌<◌}
use native.Mathlib.Numerals.{add-one}
use native.Mathlib.Omega.{arith}
use borrow.Author.Tests.{eqb-true, eq-eqb}
use lib.Dec.{eqb}
use lib.ListN.{length, get_or, take, set, length-set}
use lib.Seq.{get_or-take, length-take-le, take-suc-set}
use Rattle.std.specs.Prelude.{Some, None}
use Rattle.book_index.specs.Chains.{below, index_of, place_of}
use Rattle.book_index.specs.Changes.{Open}
use Rattle.book_index.specs.Pairs.{both_at, last_pair, first_pair, Paired, IsPair}
use Rattle.book_index.proofs.Below.{pick, below-same}
use Rattle.book_index.proofs.Laws.{First, first_none, first_here, first_on, first_last}
use Rattle.book_index.proofs.Walks.{Sought}

-- ---- both numbers at a place

abbrev mark : Bool → ℕ
mark b = cond b 1 0

both_true : (a b : Bool) → mark (a && b) ≡ 1 → (a ≡ true) × (b ≡ true)
both_true true true e = (refl, refl)
both_true true false e = absurd (omega arith)
both_true false b e = absurd (omega arith)

module _ (first last : ℕ) (xs ys : List ℕ) (p : ℕ) where
  pub both_here : get_or xs p 0 ≡ first → get_or ys p 0 ≡ last → both_at first last xs ys p ≡ 1
  unfolding both_at
  both_here e e₂ = simp (eq-eqb _ _ e, eq-eqb _ _ e₂)

  pub both_are : both_at first last xs ys p ≡ 1 → (get_or xs p 0 ≡ first) × (get_or ys p 0 ≡ last)
  unfolding both_at
  both_are e =
      let t = both_true (eqb (get_or xs p 0) first) (eqb (get_or ys p 0) last) e in
      (eqb-true _ _ t.0, eqb-true _ _ t.1)

-- ---- the walk

module _ (index fronts backs : List ℕ) (held : ℕ) (x : Paired index fronts backs held) where
  count : length (take held fronts) ≡ held
  count = let few : held ≤ 64 = x.few in let size : length fronts ≡ 64 = x.fronts in length-take-le held fronts (omega arith)

  module _ (first last : ℕ) where
    pub seek_pair : Sought index (take held fronts) held first (both_at first last fronts backs) 1
    seek_pair =
        let few : held ≤ 64 = x.few in
        record {
          is = x.is;
          count = count;
          few = omega arith;
          only_key = λ p l e. get_or-take held fronts p 0 l ∙ (both_are first last fronts backs p e).0;
        }

    below_held : below (both_at first last fronts backs) 1 held ≡ below (both_at first last (take held fronts) (take held backs)) 1 (length (take held fronts))
    unfolding both_at
    below_held =
        let f = both_at first last (take held fronts) (take held backs) in
        below-same (both_at first last fronts backs) f 1 held (λ p l. simp (get_or-take held fronts p 0 l, get_or-take held backs p 0 l))
        ∙ ap (below f 1) (sym count)

    pub pair_none : below (both_at first last fronts backs) 1 held ≡ 0 → IsPair first last fronts backs held None
    unfolding last_pair
    pair_none e = record { is = ap place_of (sym e ∙ below_held); within = tt }

    pub pair_some : {place : ℕ} → place < held → below (both_at first last fronts backs) 1 held ≡ suc place → IsPair first last fronts backs held (Some place)
    unfolding last_pair
    pair_some l e = record { is = ap place_of (sym e ∙ below_held); within = l }

-- ---- the first place and the last

-- no two have both numbers the same
abbrev pub Apart : List ℕ → List ℕ → Type 0
Apart xs ys = (i j : ℕ) → i < j → j < length xs → (eqb (get_or xs i 0) (get_or xs j 0) && eqb (get_or ys i 0) (get_or ys j 0)) ≡ false

first_is : (k first last : ℕ) (xs ys : List ℕ) → length xs ≡ length ys
    → First (both_at first last xs ys) 1 k (length xs) (first_pair k first last xs ys)
unfolding first_pair both_at
first_is k first last [] [] l = first_none (both_at first last [] []) 1 k
first_is k first last [] (y ∷ ys) l = first_none (both_at first last [] (y ∷ ys)) 1 k
first_is k first last (x ∷ xs) [] l = absurd (omega arith)
first_is k first last (x ∷ xs) (y ∷ ys) l =
    let f = both_at first last (x ∷ xs) (y ∷ ys) in
    let n = length xs in
    pick (First f 1 k (suc n)) (eqb x first && eqb y last)
    (λ e. first_here f 1 k n (ap mark e))
    (λ e. first_on f 1 k n (first_pair (suc k) first last xs ys)
    (λ z. let none : f 0 ≡ 0 = ap mark e in omega arith)
    (first_is (suc k) first last xs ys (omega arith)))

pub pair_first : (first last : ℕ) (xs ys : List ℕ) → length xs ≡ length ys → Apart xs ys
    → last_pair first last xs ys ≡ place_of (first_pair 0 first last xs ys)
unfolding last_pair
pair_first first last xs ys l apart =
    ap place_of (first_last (both_at first last xs ys) 1 (length xs) once (first_pair 0 first last xs ys) (first_is 0 first last xs ys l))
  where
    once : (i j : ℕ) → i < j → j < length xs → both_at first last xs ys i ≡ 1 → both_at first last xs ys j ≢ 1
    once i j low high e z =
        let a = both_are first last xs ys i e in
        let b = both_are first last xs ys j z in
        let not-both : false ≡ true = sym (apart i j low high) ∙ ap₂ ◌&&◌ (eq-eqb _ _ (a.0 ∙ sym b.0)) (eq-eqb _ _ (a.1 ∙ sym b.1)) in
        let no : ◌≡◌ {A = ℕ} 0 1 = cc in
        omega arith

-- ---- an inside comes

module _ (index fronts backs : List ℕ) (held : ℕ) (x : Paired index fronts backs held) where
  pub asks_pair : held < 64 → Open index (take held fronts) held
  asks_pair h = record { is = x.is; count = count _ _ _ _ x; room = omega arith }

  pub kept_pair : {after : List ℕ} (first last : ℕ) → held < 64 → after ≡ index_of (take held fronts ++ (first ∷ []))
      → Paired after (set fronts held first) (set backs held last) (held + 1)
  kept_pair first last h e =
      let size : length fronts ≡ 64 = x.fronts in
      record {
        few = omega arith;
        fronts = length-set fronts held first ∙ size;
        backs = length-set backs held last ∙ x.backs;
        is = rw (add-one, take-suc-set fronts held first (omega arith)) e;
      }
