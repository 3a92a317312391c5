-- What an index tells is the place that the look-up is defined by.
-- Assumes nothing.
use mathlib.Core.Path.{◌≡◌, refl, ap, ◌∙◌, sym, subst}
use mathlib.Core.Bool.{Bool, true, false, cond, ◌&&◌}
use mathlib.Core.List.{List, [], ◌∷◌}
use Prim.Native.Nat.{ℕ, suc}
use native.Mathlib.Omega.{arith}
use borrow.Author.Tests.{eq-eqb, ne_eqb}
use lib.Dec.{eqb}
use lib.ListN.{length, get_or, take, drop}
use lib.Seq.{length-take-le}
use Rattle.std.specs.Prelude.{Option, Some, None}
use Rattle.fields.specs.Id.{no_value}
use Rattle.book_index.specs.Chains.{IsLast, first_from, place_of}
use Rattle.book_index.specs.Pairs.{IsPair, first_pair}
use Rattle.book_index.proofs.Laws.{last_first}
use Rattle.book_index.proofs.Pairs.{pair_first}
use Rattle.book.specs.Lookup.{back_of, front_of, key_at, key_from, pair_from, symbol_at}
use Rattle.book.specs.Rule.{Apart, Distinct}
use Rattle.book.specs.Tables.{Book}
use Rattle.book_room.specs.Room.{Lies}
use Rattle.book_room.proofs.Lying.{backs_at, filled, fronts_at, held_at, keys_at, live_at}

same_first : (k key : ℕ) (xs : List ℕ) → key_from k key xs ≡ place_of (first_from k key xs)
unfolding key_from first_from
same_first k key [] = refl
same_first k key (x ∷ xs) = go (eqb x key) (same_first (suc k) key xs)
  where
    go : (b : Bool) → key_from (suc k) key xs ≡ place_of (first_from (suc k) key xs) → cond b (Some k) (key_from (suc k) key xs) ≡ place_of (cond b (suc k) (first_from (suc k) key xs))
    go true rest = refl
    go false rest = rest

pub unnamed : (keys : List ℕ) (live : ℕ) {key : ℕ} → key ≡ no_value → None ≡ key_at key (take live keys)
unfolding key_at
unnamed keys live {key} e = sym (ap (λ (b : Bool). cond b None (key_from 0 key (take live keys))) (eq-eqb key no_value e))

module _ {keys : List ℕ} {live key : ℕ} {found : Option ℕ} (apart : Distinct (take live keys)) (named : key ≡ no_value → ⊥) (last : IsLast key keys live found) where
  pub is_place : found ≡ key_at key (take live keys)
  unfolding key_at
  is_place =
      last.is
      ∙ last_first key (take live keys) apart
      ∙ sym (ap (λ (b : Bool). cond b None (key_from 0 key (take live keys))) (ne_eqb key no_value named) ∙ same_first 0 key (take live keys))

-- ---- a symbol, by its two numbers

same_pair : (k first last : ℕ) (xs ys : List ℕ) → pair_from k first last xs ys ≡ place_of (first_pair k first last xs ys)
unfolding pair_from first_pair
same_pair k first last [] [] = refl
same_pair k first last [] (y ∷ ys) = refl
same_pair k first last (x ∷ xs) [] = refl
same_pair k first last (x ∷ xs) (y ∷ ys) = go (eqb x first && eqb y last) (same_pair (suc k) first last xs ys)
  where
    go : (b : Bool) → pair_from (suc k) first last xs ys ≡ place_of (first_pair (suc k) first last xs ys)
        → cond b (Some k) (pair_from (suc k) first last xs ys) ≡ place_of (cond b (suc k) (first_pair (suc k) first last xs ys))
    go true rest = refl
    go false rest = rest

module _ (symbol fronts backs : List ℕ) (held : ℕ) {first last : ℕ} (fore : first ≡ front_of symbol) (aft : last ≡ back_of symbol) where
  pub no_symbol : first ≡ 0 → None ≡ symbol_at symbol (take held fronts) (take held backs)
  unfolding symbol_at
  no_symbol e = sym (ap (λ (b : Bool). cond b None (pair_from 0 (front_of symbol) (back_of symbol) (take held fronts) (take held backs))) (eq-eqb (front_of symbol) 0 (sym fore ∙ e)))

  module _ (paired : length (take held fronts) ≡ length (take held backs)) (apart : Apart (take held fronts) (take held backs)) (named : first ≡ 0 → ⊥) {found : Option ℕ} (is : IsPair first last fronts backs held found) where
    pub is_held : found ≡ symbol_at symbol (take held fronts) (take held backs)
    unfolding symbol_at
    is_held =
        is.is
        ∙ pair_first first last (take held fronts) (take held backs) paired apart
        ∙ sym
        (ap (λ (b : Bool). cond b None (pair_from 0 (front_of symbol) (back_of symbol) (take held fronts) (take held backs))) (ne_eqb (front_of symbol) 0 (λ e. named (fore ∙ e)))
        ∙ (λ i. pair_from 0 (sym fore i) (sym aft i) (take held fronts) (take held backs))
        ∙ same_pair 0 first last (take held fronts) (take held backs))

-- ---- what an index of a room tells is told of the book

module _ {room : List ℕ} {next end : ℕ} {b : Book} (lies : Lies room next end b) where
  pub last_in : {key : ℕ} {found : Option ℕ} → IsLast key (take 256 (drop 10 room)) (get_or room 2 0) found → IsLast key b.keys b.live found
  last_in {key} {found} last =
      subst (λ (l : List ℕ). IsLast key l b.live found) (keys_at (filled lies))
      (subst (λ (n : ℕ). IsLast key (take 256 (drop 10 room)) n found) (live_at (filled lies)) last)

  pub pair_in : {first last : ℕ} {found : Option ℕ} → IsPair first last (take 64 (drop 1796 room)) (take 64 (drop 1860 room)) (get_or room 3 0) found
      → IsPair first last b.fronts b.backs b.held found
  pair_in {first} {last} {found} is =
      subst (λ (l : List ℕ). IsPair first last l b.backs b.held found) (fronts_at (filled lies))
      (subst (λ (l : List ℕ). IsPair first last (take 64 (drop 1796 room)) l b.held found) (backs_at (filled lies))
      (subst (λ (n : ℕ). IsPair first last (take 64 (drop 1796 room)) (take 64 (drop 1860 room)) n found) (held_at (filled lies)) is))

  pub held_same : length (take b.held b.fronts) ≡ length (take b.held b.backs)
  held_same =
      length-take-le b.held b.fronts (omega (arith, lies.kept.held, lies.kept.fronts))
      ∙ sym (length-take-le b.held b.backs (omega (arith, lies.kept.held, lies.kept.backs)))
