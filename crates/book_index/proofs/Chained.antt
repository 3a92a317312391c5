-- The index by the chains of the places: what a cell holds, and what a place that comes or leaves changes.
-- Assumes nothing.
use mathlib.Core.Path.{◌≡◌, refl, sym, ap, ◌∙◌, fun_ext}
use mathlib.Core.Logic.{◌≢◌}
use mathlib.Core.List.{List}
use Prim.Native.Nat.{ℕ, ◌+◌, ◌-◌, ◌≤◌, ◌<◌}
use native.Mathlib.Omega.{arith}
use borrow.Author.Tests.{lt-ltb, le-ltb}
use lib.ListN.{length, get_or, set, get_or-eq_default}
use Rattle.book_index.specs.Chains.{below, table_from, chain_of, chain_at, cell_of, index_by}
use Rattle.book_index.specs.Changes.{Behind}
use Rattle.book_index.proofs.Below.{order, Highest, highest}
use Rattle.book_index.proofs.Cells.{length_table, get_d_table, cell_on, Differ, linked, unlinked}

pub chain_below : (key : ℕ) → chain_of key < 509
unfolding chain_of
chain_below key = omega arith

-- ---- the chain of a cell

module _ (chains : List ℕ) (cell : ℕ) where
  pub of_place : cell < 256 → chain_at chains cell ≡ get_or chains cell 509
  unfolding chain_at
  of_place h = simp (lt-ltb _ _ h)

  pub of_head : 256 ≤ cell → chain_at chains cell ≡ cell - 256
  unfolding chain_at
  of_head h = simp (le-ltb _ _ h)

pub head_on : (chains : List ℕ) (b cell : ℕ) → cell ≡ 256 + b → chain_at chains cell ≡ b
head_on chains b cell e = of_head chains cell (omega arith) ∙ omega arith

-- of two cells of a chain the lower is a place
pub lower : (chains : List ℕ) (c d : ℕ) → c < d → chain_at chains c ≡ chain_at chains d → c < 256
lower chains c d h e =
    order c 256
    (λ l. l)
    (λ l. let p = of_head chains c l in let q = of_head chains d (omega arith) in absurd (omega arith))

-- a place on a chain is within the list
pub inside : (chains : List ℕ) (b place : ℕ) → b < 509 → get_or chains place 509 ≡ b → place < length chains
inside chains b place h e =
    order place (length chains)
    (λ l. l)
    (λ l. let z = get_or-eq_default chains 509 l in absurd (omega arith))

-- ---- the index

pub length_by : (chains : List ℕ) → length (index_by chains) ≡ 765
unfolding index_by
length_by chains = length_table (cell_of (chain_at chains)) 0 765

pub size_by : {index : List ℕ} (chains : List ℕ) → index ≡ index_by chains → length index ≡ 765
size_by chains is = ap length is ∙ length_by chains

pub by_at : (chains : List ℕ) (cell : ℕ) → cell < 765 → get_or (index_by chains) cell 0 ≡ cell_of (chain_at chains) cell
unfolding index_by
by_at chains cell h = get_d_table (cell_of (chain_at chains)) 0 765 cell h ∙ ap (cell_of (chain_at chains)) (omega arith)

-- what is read at a cell of chain b: the last cell of the chain before it
pub reading : {index : List ℕ} (chains : List ℕ) (b cell : ℕ) → index ≡ index_by chains → cell < 765 → chain_at chains cell ≡ b → b < 509
    → Highest (chain_at chains) b cell (get_or index cell 0)
reading {index} chains b cell is h e l =
    let read : get_or index cell 0 ≡ below (chain_at chains) b cell =
    ap (λ (x : List ℕ). get_or x cell 0) is ∙ by_at chains cell h ∙ cell_on (chain_at chains) cell e l
    in
    rw read (highest (chain_at chains) b cell)

-- places on the same chains have the same index
pub same_index : (one other : List ℕ) → ((p : ℕ) → p < 256 → get_or one p 509 ≡ get_or other p 509) → index_by one ≡ index_by other
unfolding index_by
same_index one other h = ap (λ (ch : ℕ → ℕ). table_from (cell_of ch) 0 765) (fun_ext each)
  where
    each : (c : ℕ) → chain_at one c ≡ chain_at other c
    each c =
        order c 256
        (λ l. of_place one c l ∙ h c l ∙ sym (of_place other c l))
        (λ l. of_head one c l ∙ sym (of_head other c l))

-- ---- a place comes to a chain, and leaves it

-- two lists of chains that differ in one place
module _ (off on : List ℕ) (b place : ℕ) (few : place < 256)
    (kept : (p : ℕ) → p ≢ place → get_or on p 509 ≡ get_or off p 509) (none : get_or off place 509 ≡ 509)
    (some : get_or on place 509 ≡ b) (good : b < 509) where
  pub same_chain : (c : ℕ) → c ≢ place → chain_at on c ≡ chain_at off c
  same_chain c n =
      order c 256
      (λ l. of_place on c l ∙ kept c n ∙ sym (of_place off c l))
      (λ l. of_head on c l ∙ sym (of_head off c l))

  differ : (cell : ℕ) → place < cell → chain_at off cell ≡ b → ((c : ℕ) → place < c → c < cell → chain_at off c ≢ b)
      → Differ (chain_at off) (chain_at on) b place cell
  differ cell past there free =
      record {
        kept = same_chain;
        none = of_place off place few ∙ none;
        some = of_place on place few ∙ some;
        good = good;
        past = past;
        there = there;
        free = free;
      }

  pub comes : (cell : ℕ) → cell < 765 → Behind off b place cell → {index : List ℕ} → index ≡ index_by off
      → set (set index place (get_or index cell 0)) cell (place + 1) ≡ index_by on
  unfolding index_by
  comes cell within h is =
      rw is (linked (chain_at off) (chain_at on) b place cell (differ cell h.past h.on h.free) within)

  pub leaves : (cell : ℕ) → cell < 765 → Behind on b place cell → {index : List ℕ} → index ≡ index_by on
      → set (set index cell (get_or index place 0)) place 0 ≡ index_by off
  unfolding index_by
  leaves cell within h is =
      let past : place < cell = h.past in
      rw is
      (unlinked (chain_at off) (chain_at on) b place cell
      (differ cell past (sym (same_chain cell (omega arith)) ∙ h.on)
      (λ c l m e. h.free c l m (same_chain c (omega arith) ∙ e)))
      within)

-- where nothing of the chain is behind a place, the head is
pub head-behind : (chains : List ℕ) (b place : ℕ) → place < 256 → b < 509 → ((p : ℕ) → place < p → p < 256 → get_or chains p 509 ≢ b)
    → Behind chains b place (256 + b)
head-behind chains b place few good none =
    record {
      past = omega arith;
      on = head_on chains b (256 + b) refl;
      free = λ c l m e.
          order c 256
          (λ q. none c l q (sym (of_place chains c q) ∙ e))
          (λ q. let z = of_head chains c q in omega arith);
    }
