-- What the stores of each change make of the index.
-- Assumes nothing.
use mathlib.Core.Path.{◌≡◌, sym, ap, ◌∙◌}
use mathlib.Core.Logic.{◌≢◌}
use mathlib.Core.List.{List, [], ◌∷◌, ◌++◌, map}
use Prim.Native.Nat.{ℕ, ◌+◌, ◌-◌, ◌≤◌, ◌<◌}
use native.Mathlib.Omega.{arith}
use lib.ListN.{length, get_or, set, length-set, length-map, length-append, get_or-eq_default, get_or-append}
use lib.Seq.{get_or-set_same, get_or-set_other, get_or-take, get_or_at, length-take-le}
use Rattle.book_index.specs.Chains.{chain_of, index_by, index_of}
use Rattle.book_index.specs.Changes.{without, Open, Leaving, On, Last, Off, Behind}
use Rattle.book_index.proofs.Below.{split, order}
use Rattle.book_index.proofs.Chained.{chain_below, inside, same_index, comes, leaves, head-behind}
use Rattle.book_index.proofs.Walks.{chain_in, chain_out}

-- a key comes behind the others
module _ (index ids : List ℕ) (live key cell : ℕ) (o : Open index ids live) (e : cell ≡ 256 + chain_of key) where
  more : length (ids ++ (key ∷ [])) ≡ live + 1
  more = length-append ids (key ∷ []) ∙ ap (λ (n : ℕ). n + 1) o.count

  kept : (p : ℕ) → p ≢ live → get_or (map chain_of (ids ++ (key ∷ []))) p 509 ≡ get_or (map chain_of ids) p 509
  kept p n =
      let count : length ids ≡ live = o.count in
      let m = more in
      order p live
      (λ l. chain_in (ids ++ (key ∷ [])) p (omega arith)
      ∙ ap chain_of (get_or-append ids (key ∷ []) 0 p (omega arith))
      ∙ sym (chain_in ids p (omega arith)))
      (λ l. chain_out (ids ++ (key ∷ [])) p (omega arith) ∙ sym (chain_out ids p (omega arith)))

  pub put_is : set (set index live (get_or index cell 0)) cell (live + 1) ≡ index_of (ids ++ (key ∷ []))
  unfolding index_of
  put_is =
      let count : length ids ≡ live = o.count in
      let m = more in
      let good = chain_below key in
      rw e
      (comes (map chain_of ids) (map chain_of (ids ++ (key ∷ []))) (chain_of key) live o.room kept
      (chain_out ids live (omega arith))
      (chain_in (ids ++ (key ∷ [])) live (omega arith) ∙ ap chain_of (get_or_at ids key [] 0 live count))
      good
      (256 + chain_of key)
      (omega arith)
      (head-behind (map chain_of ids) (chain_of key) live o.room good
      (λ p l h z. let out = chain_out ids p (omega arith) in omega arith))
      o.is)

-- a place leaves its chain
module _ (chains : List ℕ) (key place : ℕ) (few : place < 256) (on : get_or chains place 509 ≡ chain_of key) where
  pub gone-is : (index : List ℕ) (cell : ℕ) → index ≡ index_by chains → cell < 765 → Behind chains (chain_of key) place cell
      → set (set index cell (get_or index place 0)) place 0 ≡ index_by (set chains place 509)
  gone-is index cell is within h =
      let good = chain_below key in
      leaves (set chains place 509) chains (chain_of key) place few
      (λ p n. sym (get_or-set_other chains place p 509 509 n))
      (get_or-set_same chains place 509 509 (inside chains (chain_of key) place good on))
      on
      good
      cell
      within
      h
      is

pub unlink_is : (index chains : List ℕ) (key place cell : ℕ) → On index chains (chain_of key) place
    → cell < 765 → Behind chains (chain_of key) place cell
    → set (set index cell (get_or index place 0)) place 0 ≡ index_by (set chains place 509)
unlink_is index chains key place cell o within h = gone-is chains key place o.few o.on index cell o.is within h

pub pop_is : (index chains : List ℕ) (key place cell : ℕ) → Last index chains (chain_of key) place → cell ≡ 256 + chain_of key
    → set (set index cell (get_or index place 0)) place 0 ≡ index_by (set chains place 509)
pop_is index chains key place cell o e =
    let good = chain_below key in
    let end : length chains ≡ place + 1 = o.end in
    rw e
    (gone-is chains key place o.on.few o.on.on index (256 + chain_of key) o.on.is (omega arith)
    (head-behind chains (chain_of key) place o.on.few good
    (λ p l h z. let out : get_or chains p 509 ≡ 509 = get_or-eq_default chains 509 (omega arith) in omega arith)))

-- a place comes to a chain
pub link_is : (index chains : List ℕ) (key place cell : ℕ) → Off index chains place → cell < 765 → Behind chains (chain_of key) place cell
    → set (set index place (get_or index cell 0)) cell (place + 1) ≡ index_by (set chains place (chain_of key))
link_is index chains key place cell o within h =
    comes chains (set chains place (chain_of key)) (chain_of key) place o.few
    (λ p n. get_or-set_other chains place p (chain_of key) 509 n)
    o.off
    (get_or-set_same chains place (chain_of key) 509 o.within)
    (chain_below key)
    cell
    within
    h
    o.is

-- ---- one leaves, and the last takes its place

module _ {A : Type 0} (blank : A) (place : ℕ) (xs : List A) where
  abbrev last : ℕ
  last = length xs - 1

  pub length_without : length (without blank place xs) ≡ length xs - 1
  unfolding without
  length_without =
      length-take-le last (set xs place (get_or xs last blank)) (rw length-set (omega arith))

  pub without_other : (p : ℕ) → p < length xs - 1 → p ≢ place → get_or (without blank place xs) p blank ≡ get_or xs p blank
  unfolding without
  without_other p h n = get_or-take last (set xs place (get_or xs last blank)) p blank h ∙ get_or-set_other xs place p (get_or xs last blank) blank n

  pub without_here : place < length xs - 1 → get_or (without blank place xs) place blank ≡ get_or xs (length xs - 1) blank
  unfolding without
  without_here h =
      get_or-take last (set xs place (get_or xs last blank)) place blank h
      ∙ get_or-set_same xs place (get_or xs last blank) blank (omega arith)

module _ (index ids : List ℕ) (last place gone moved : ℕ) (l : Leaving index ids last place gone moved) where
  abbrev popped : List ℕ
  popped = set (map chain_of ids) last 509

  abbrev freed : List ℕ
  freed = set popped place 509

  chains_size : length (map chain_of ids) ≡ last + 1
  chains_size = length-map ids chain_of ∙ l.count

  less : length ids - 1 ≡ last
  less = let count : length ids ≡ last + 1 = l.count in omega arith

  -- what each of the three steps asks
  pub asks_pop : Last index (map chain_of ids) (chain_of moved) last
  unfolding index_of
  asks_pop =
      let count : length ids ≡ last + 1 = l.count in
      record {
        on = record { is = l.is; few = l.few; on = chain_in ids last (omega arith) ∙ ap chain_of l.end };
        end = chains_size;
      }

  pub asks_unlink : {now : List ℕ} → place ≢ last → now ≡ index_by popped → On now popped (chain_of gone) place
  asks_unlink n is =
      let count : length ids ≡ last + 1 = l.count in
      let within : place ≤ last = l.within in
      let few : last < 256 = l.few in
      record {
        is = is;
        few = omega arith;
        on = get_or-set_other (map chain_of ids) last place 509 509 n ∙ chain_in ids place (omega arith) ∙ ap chain_of l.here;
      }

  pub asks_link : {now : List ℕ} → now ≡ index_by freed → Off now freed place
  asks_link is =
      let size = chains_size in
      let within : place ≤ last = l.within in
      let few : last < 256 = l.few in
      let room : place < length popped = rw (length-set (map chain_of ids) last 509) (omega arith) in
      record {
        is = is;
        few = omega arith;
        within = rw (length-set popped place 509) room;
        off = get_or-set_same popped place 509 509 room;
      }

  -- what is on no chain any more is behind the keys that are left
  after : (p : ℕ) → last ≤ p → get_or popped p 509 ≡ 509
  after p h =
      let size = chains_size in
      split p last
      (λ e. rw e (get_or-set_same (map chain_of ids) last 509 509 (omega arith)))
      (λ n. get_or-set_other (map chain_of ids) last p 509 509 n ∙ get_or-eq_default (map chain_of ids) 509 (omega arith))

  left : (p : ℕ) → p < last → p ≢ place → get_or popped p 509 ≡ get_or (map chain_of (without 0 place ids)) p 509
  left p h n =
      let count : length ids ≡ last + 1 = l.count in
      let size = length_without 0 place ids in
      get_or-set_other (map chain_of ids) last p 509 509 (omega arith)
      ∙ chain_in ids p (omega arith)
      ∙ ap chain_of (sym (without_other 0 place ids p (omega arith) n))
      ∙ sym (chain_in (without 0 place ids) p (omega arith))

  ended : (p : ℕ) → last ≤ p → get_or (map chain_of (without 0 place ids)) p 509 ≡ 509
  ended p h = let size = length_without 0 place ids in let e = less in chain_out (without 0 place ids) p (omega arith)

  pub last_is : {now : List ℕ} → place ≡ last → now ≡ index_by popped → now ≡ index_of (without 0 place ids)
  unfolding index_of
  last_is e is =
      is
      ∙ same_index popped (map chain_of (without 0 place ids))
      (λ p h. order p last (λ q. left p q (omega arith)) (λ q. after p q ∙ sym (ended p q)))

  pub removed_is : {now : List ℕ} → place ≢ last → now ≡ index_by (set freed place (chain_of moved)) → now ≡ index_of (without 0 place ids)
  unfolding index_of
  removed_is n is = is ∙ same_index (set freed place (chain_of moved)) (map chain_of (without 0 place ids)) each
    where
      there : get_or (set freed place (chain_of moved)) place 509 ≡ get_or (map chain_of (without 0 place ids)) place 509
      there =
          let size = chains_size in
          let within : place ≤ last = l.within in
          let e = less in
          let short = length_without 0 place ids in
          get_or-set_same freed place (chain_of moved) 509 (rw (length-set popped place 509, length-set (map chain_of ids) last 509) (omega arith))
          ∙ ap chain_of (sym (without_here 0 place ids (omega arith) ∙ ap (λ (i : ℕ). get_or ids i 0) e ∙ l.end))
          ∙ sym (chain_in (without 0 place ids) place (omega arith))

      each : (p : ℕ) → p < 256 → get_or (set freed place (chain_of moved)) p 509 ≡ get_or (map chain_of (without 0 place ids)) p 509
      each p h =
          split p place
          (λ e. rw e there)
          (λ e. get_or-set_other freed place p (chain_of moved) 509 e
          ∙ get_or-set_other popped place p 509 509 e
          ∙ order p last (λ q. left p q e) (λ q. after p q ∙ sym (ended p q)))
