-- A walk along a chain: where it stands, where it ends, and that the places fall.
-- Assumes nothing.
use mathlib.Core.Path.{◌≡◌, refl, sym, ap, subst, ◌∙◌}
use mathlib.Core.Logic.{◌≢◌}
use Rattle.std.specs.Prelude.{Some, None}
use mathlib.Core.List.{List, [], ◌∷◌, map}
use Prim.Native.Nat.{ℕ, zero, suc, ◌+◌, ◌-◌, ◌≤◌, ◌<◌}
use native.Mathlib.Omega.{arith}
use lib.ListN.{length, get_or, take, length-map, get_or-eq_default}
use lib.Seq.{get_or-take, length-take-le}
use Rattle.book_index.specs.Chains.{below, chain_of, chain_at, index_by, index_of, last_at, place_of, Indexed, IsLast}
use Rattle.book_index.specs.Changes.{Behind}
use Rattle.book_index.proofs.Below.{order, Highest, only, below-same}
use Rattle.book_index.proofs.Chained.{chain_below, of_place, head_on, lower, inside, reading}

-- the chains of keys: that of each, and behind them none
pub chain_in : (ids : List ℕ) (p : ℕ) → p < length ids → get_or (map chain_of ids) p 509 ≡ chain_of (get_or ids p 0)
chain_in [] p h = absurd (omega arith)
chain_in (x ∷ xs) zero h = refl
chain_in (x ∷ xs) (suc p) h = chain_in xs p (omega arith)

pub chain_out : (ids : List ℕ) (p : ℕ) → length ids ≤ p → get_or (map chain_of ids) p 509 ≡ 509
chain_out ids p h = get_or-eq_default (map chain_of ids) 509 (rw length-map h)

-- ---- the place that a cell names

named : (n : ℕ) {place : ℕ} → Some place ≡ place_of n → n ≡ suc place
named zero e = cc
named (suc n) e = cc

ended : (n : ℕ) → None ≡ place_of n → n ≡ 0
ended zero e = refl
ended (suc n) e = cc

-- ---- to the nearest cell behind a place

-- a cell of the chain behind the place
pub record Nearing (chains : List ℕ) (b place cell : ℕ) : Type 0 where
  pub within : cell < 765
  pub past : place < cell
  pub on : chain_at chains cell ≡ b

module _ (index chains : List ℕ) (key place cell : ℕ) (is : index ≡ index_by chains) where
  pub near_head : place < 256 → cell ≡ 256 + chain_of key → Nearing chains (chain_of key) place cell
  near_head h e =
      let l = chain_below key in
      record { within = omega arith; past = omega arith; on = head_on chains (chain_of key) cell e }

  module _ (w : Nearing chains (chain_of key) place cell) where
    held : Highest (chain_at chains) (chain_of key) cell (get_or index cell 0)
    held = reading chains (chain_of key) cell is w.within w.on (chain_below key)

    near : get_or index cell 0 ≤ place + 1 → Behind chains (chain_of key) place cell
    near h = record { past = w.past; on = w.on; free = λ c l m. held.free c (omega arith) m }

    pub near_last : None ≡ place_of (get_or index cell 0) → Behind chains (chain_of key) place cell
    near_last e = near (omega (arith, ended (get_or index cell 0) e))

    module _ {after : ℕ} (e : Some after ≡ place_of (get_or index cell 0)) where
      is_after : get_or index cell 0 ≡ suc after
      is_after = named (get_or index cell 0) e

      pub near_falls : after < cell
      near_falls = omega (arith, is_after, held.most)

      pub near_end : after ≤ place → Behind chains (chain_of key) place cell
      near_end h = near (omega (arith, is_after))

      pub near_on : place < after → Nearing chains (chain_of key) place after
      near_on h =
          let fall = near_falls in
          let within : cell < 765 = w.within in
          let back : get_or index cell 0 - 1 ≡ after = omega (arith, is_after) in
          record {
            within = omega arith;
            past = h;
            on = subst (λ (c : ℕ). chain_at chains c ≡ chain_of key) back (held.there (omega (arith, is_after)));
          }

-- ---- to a key

-- an index of n keys, and what a walk along a key's chain looks for: the last place at which f is v, where only the key stands
pub record Sought (index ids : List ℕ) (n key : ℕ) (f : ℕ → ℕ) (v : ℕ) : Type 0 where
  pub is : index ≡ index_of ids
  pub count : length ids ≡ n
  pub few : n ≤ 256
  pub only_key : (p : ℕ) → p < n → f p ≡ v → get_or ids p 0 ≡ key

-- a cell of the key's chain, with f not v at any place from it on
pub record Seeking (ids : List ℕ) (n key : ℕ) (f : ℕ → ℕ) (v cell : ℕ) : Type 0 where
  pub within : cell < 765
  pub on : chain_at (map chain_of ids) cell ≡ chain_of key
  pub free : (p : ℕ) → cell ≤ p → p < n → f p ≢ v

module _ {index ids : List ℕ} {n key : ℕ} {f : ℕ → ℕ} {v : ℕ} (x : Sought index ids n key f v) where
  chain_live : (p : ℕ) → p < n → f p ≡ v → chain_at (map chain_of ids) p ≡ chain_of key
  chain_live p h e =
      let few : n ≤ 256 = x.few in
      of_place (map chain_of ids) p (omega arith)
      ∙ chain_in ids p (rw x.count h)
      ∙ ap chain_of (x.only_key p h e)

  pub seek_head : (cell : ℕ) → cell ≡ 256 + chain_of key → Seeking ids n key f v cell
  seek_head cell e =
      let l = chain_below key in
      let few : n ≤ 256 = x.few in
      record { within = omega arith; on = head_on (map chain_of ids) (chain_of key) cell e; free = λ p l m. absurd (omega arith) }

  module _ {cell : ℕ} (w : Seeking ids n key f v cell) where
    abbrev at : ℕ
    at = get_or index cell 0

    read : Highest (chain_at (map chain_of ids)) (chain_of key) cell at
    unfolding index_of
    read = reading (map chain_of ids) (chain_of key) cell x.is w.within w.on (chain_below key)

    none_from : (p : ℕ) → at ≤ p → p < n → f p ≢ v
    none_from p l m e =
        order p cell
        (λ q. read.free p l q (chain_live p m e))
        (λ q. w.free p q m e)

    pub seek_none : None ≡ place_of at → below f v n ≡ 0
    seek_none e =
        let zero : at ≡ 0 = ended at e in
        only f v (record { most = omega arith; there = λ l. absurd (omega arith); free = λ p l. none_from p (omega arith) })

    module _ {place : ℕ} (e : Some place ≡ place_of at) where
      is_next : at ≡ suc place
      is_next = named at e

      on_chain : chain_at (map chain_of ids) place ≡ chain_of key
      on_chain =
          let back : at - 1 ≡ place = omega (arith, is_next) in
          subst (λ (p : ℕ). chain_at (map chain_of ids) p ≡ chain_of key) back (read.there (omega (arith, is_next)))

      pub seek_falls : place < cell
      seek_falls = omega (arith, is_next, read.most)

      pub seek_live : place < n
      seek_live =
          let low : place < 256 = lower (map chain_of ids) place cell seek_falls (on_chain ∙ sym w.on) in
          let l = inside (map chain_of ids) (chain_of key) place (chain_below key) (sym (of_place (map chain_of ids) place low) ∙ on_chain) in
          omega (arith, length-map ids chain_of, x.count)

      pub seek_found : f place ≡ v → below f v n ≡ suc place
      seek_found h =
          let l = seek_live in
          only f v (record { most = omega arith; there = λ q. let same : suc place - 1 ≡ place = omega arith in rw same h; free = λ p q. none_from p (omega (arith, is_next)) })

      pub seek_on : f place ≢ v → Seeking ids n key f v place
      seek_on h =
          let fall = seek_falls in
          let within : cell < 765 = w.within in
          record {
            within = omega arith;
            on = on_chain;
            free = λ p l m. order p at (λ q. let z : p ≡ place = omega (arith, is_next) in rw z h) (λ q. none_from p q m);
          }

-- an order is sought by its key
module _ (index keys : List ℕ) (live key : ℕ) (x : Indexed index keys live) where
  abbrev key_at : ℕ → ℕ
  key_at p = get_or keys p 0

  count : length (take live keys) ≡ live
  count = let few : live ≤ 256 = x.few in let size : length keys ≡ 256 = x.size in length-take-le live keys (omega arith)

  pub seek_key : Sought index (take live keys) live key key_at key
  seek_key = record { is = x.is; count = count; few = x.few; only_key = λ p l e. get_or-take live keys p 0 l ∙ e }

  below_live : below key_at key live ≡ below (λ p. get_or (take live keys) p 0) key (length (take live keys))
  below_live =
      let f : ℕ → ℕ = λ p. get_or (take live keys) p 0 in
      below-same key_at f key live (λ p l. sym (get_or-take live keys p 0 l)) ∙ ap (below f key) (sym count)

  pub last_none : below key_at key live ≡ 0 → IsLast key keys live None
  unfolding last_at
  last_none e = record { is = ap place_of (sym e ∙ below_live); within = tt }

  pub last_some : {place : ℕ} → place < live → below key_at key live ≡ suc place → IsLast key keys live (Some place)
  unfolding last_at
  last_some l e = record { is = ap place_of (sym e ∙ below_live); within = l }
