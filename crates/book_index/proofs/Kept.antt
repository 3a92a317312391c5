-- An index kept beside an array of keys: what the functions ask of it, and that it stays the index of the live ones.
-- Assumes nothing.
use mathlib.Core.Path.{◌≡◌, refl, sym, ap, ◌∙◌}
use mathlib.Core.List.{List, [], ◌∷◌, ◌++◌, map}
use Prim.Native.Nat.{ℕ, ◌+◌, ◌-◌, ◌≤◌, ◌<◌}
use native.Mathlib.Numerals.{add-one}
use native.Mathlib.Omega.{arith}
use lib.ListN.{length, get_or, take, set, length-set}
use lib.Seq.{length-take-le, take-suc-set, take-set-lt, take-take, get_or-take}
use Rattle.book_index.specs.Chains.{below, chain_of, chain_at, index_of, Indexed}
use Rattle.book_index.specs.Changes.{without, Open, Leaving}
use Rattle.book_index.proofs.Below.{order, Highest, highest, only}
use Rattle.book_index.proofs.Cells.{cell_on, cell_off}
use Rattle.book_index.proofs.Chained.{chain_below, of_place, of_head, head_on, by_at}
use Rattle.book_index.proofs.Walks.{chain_in, chain_out}

-- ---- the cells of an index, each by itself

module _ (ids : List ℕ) (few : length ids ≤ 256) where
  abbrev chains : ℕ → ℕ
  chains place = get_or (map chain_of ids) place 509

  -- a live place points at the next lower one on its chain
  pub follower_is : (place : ℕ) → place < length ids → get_or (index_of ids) place 0 ≡ below chains (chain_of (get_or ids place 0)) place
  unfolding index_of
  follower_is place h =
      let b = chain_of (get_or ids place 0) in
      let x : Highest chains b place (below chains b place) = highest chains b place in
      let most : below chains b place ≤ place = x.most in
      by_at (map chain_of ids) place (omega arith)
      ∙ cell_on (chain_at (map chain_of ids)) place (of_place (map chain_of ids) place (omega arith) ∙ chain_in ids place h) (chain_below (get_or ids place 0))
      ∙ only (chain_at (map chain_of ids)) b
      (record {
        most = most;
        there = λ l. of_place (map chain_of ids) (below chains b place - 1) (omega arith) ∙ x.there l;
        free = λ p l m e. x.free p l m (sym (of_place (map chain_of ids) p (omega arith)) ∙ e);
      })

  -- a place with no live order holds 0
  pub free_is : (place : ℕ) → length ids ≤ place → place < 256 → get_or (index_of ids) place 0 ≡ 0
  unfolding index_of
  free_is place h l =
      let z = of_place (map chain_of ids) place l ∙ chain_out ids place h in
      by_at (map chain_of ids) place (omega arith) ∙ cell_off (chain_at (map chain_of ids)) place (omega arith)

  -- a head points at the highest live place on its chain
  pub head-is : (b : ℕ) → b < 509 → get_or (index_of ids) (256 + b) 0 ≡ below chains b (length ids)
  unfolding index_of
  head-is b h =
      let x : Highest chains b (length ids) (below chains b (length ids)) = highest chains b (length ids) in
      let most : below chains b (length ids) ≤ length ids = x.most in
      by_at (map chain_of ids) (256 + b) (omega arith)
      ∙ cell_on (chain_at (map chain_of ids)) (256 + b) (head_on (map chain_of ids) b (256 + b) refl) h
      ∙ only (chain_at (map chain_of ids)) b
      (record {
        most = omega arith;
        there = λ l. of_place (map chain_of ids) (below chains b (length ids) - 1) (omega arith) ∙ x.there l;
        free = λ p l m e.
            order p 256
            (λ q.
            let z = of_place (map chain_of ids) p q in
            order p (length ids)
            (λ k. x.free p l k (sym z ∙ e))
            (λ k. let out = chain_out ids p k in omega arith))
            (λ q. let z = of_head (map chain_of ids) p q in omega arith);
      })

-- ---- an order comes, and one leaves

module _ (index keys : List ℕ) (live : ℕ) (x : Indexed index keys live) where
  fits : live ≤ length keys
  fits = let few : live ≤ 256 = x.few in let size : length keys ≡ 256 = x.size in omega arith

  pub asks_put : live < 256 → Open index (take live keys) live
  asks_put h = record { is = x.is; count = length-take-le live keys fits; room = h }

  pub kept_put : {after : List ℕ} (key : ℕ) → live < 256 → after ≡ index_of (take live keys ++ (key ∷ [])) → Indexed after (set keys live key) (live + 1)
  kept_put key h e =
      let size : length keys ≡ 256 = x.size in
      record {
        few = omega arith;
        size = length-set keys live key ∙ size;
        is = rw (add-one, take-suc-set keys live key (omega arith)) e;
      }

  module _ (last place : ℕ) (end : live ≡ last + 1) (within : place ≤ last) where
    pub asks_remove : Leaving index (take live keys) last place (get_or keys place 0) (get_or keys last 0)
    asks_remove =
        let few : live ≤ 256 = x.few in
        record {
          is = x.is;
          count = length-take-le live keys fits ∙ end;
          few = omega arith;
          within = within;
          here = get_or-take live keys place 0 (omega arith);
          end = get_or-take live keys last 0 (omega arith);
        }

    without-take : without 0 place (take live keys) ≡ take last (set keys place (get_or keys last 0))
    unfolding without
    without-take =
        let less : length (take live keys) - 1 ≡ last = rw (length-take-le live keys fits) (omega arith) in
        rw (less, get_or-take live keys last 0 (omega arith), ← take-set-lt live keys place (get_or keys last 0) (omega arith))
        (take-take last live (set keys place (get_or keys last 0)) (omega arith))

    -- what stands at the last place and behind it no longer matters
    pub kept_remove : {after left : List ℕ} → after ≡ index_of (without 0 place (take live keys))
        → length left ≡ 256 → take last left ≡ take last (set keys place (get_or keys last 0)) → Indexed after left last
    kept_remove e size same =
        let few : live ≤ 256 = x.few in
        record { few = omega arith; size = size; is = e ∙ ap index_of (without-take ∙ sym same) }
