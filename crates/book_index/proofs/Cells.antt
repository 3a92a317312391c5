-- A cell's place on a chain, and what two stores do: a cell comes to a chain, or leaves it.
-- Assumes nothing.
use mathlib.Core.Path.{◌≡◌, refl, sym, ap, ◌∙◌}
use mathlib.Core.Logic.{◌≢◌}
use mathlib.Core.List.{List}
use Prim.Native.Nat.{ℕ, zero, suc, ◌+◌, ◌-◌, ◌≤◌, ◌<◌}
use native.Mathlib.Omega.{arith}
use borrow.Author.Tests.{lt-ltb, le-ltb}
use lib.ListN.{length, get_or, set, length-set}
use lib.Seq.{ext_get_or, get_or-set_same, get_or-set_other}
use Rattle.book_index.specs.Chains.{below, table_from, cell_of}
use Rattle.book_index.proofs.Below.{split, order, Highest, highest, only}

pub length_table : (f : ℕ → ℕ) (k n : ℕ) → length (table_from f k n) ≡ n
unfolding table_from
length_table f k zero = refl
length_table f k (suc n) = ap suc (length_table f (suc k) n)

pub get_d_table : (f : ℕ → ℕ) (k n i : ℕ) → i < n → get_or (table_from f k n) i 0 ≡ f (k + i)
unfolding table_from
get_d_table f k zero i h = absurd (omega arith)
get_d_table f k (suc n) zero h = ap f (omega arith)
get_d_table f k (suc n) (suc i) h = get_d_table f (suc k) n i (omega arith) ∙ ap f (omega arith)

-- two stores take one table to another
module _ (f g : ℕ → ℕ) (n a b : ℕ) where
  abbrev stored : ℕ → ℕ → List ℕ
  stored x y = set (set (table_from f 0 n) a x) b y

  size : (x y : ℕ) → length (stored x y) ≡ n
  size x y = simp (length-set, length_table)

  pub two_stores : {x y : ℕ} → a < n → b < n → a ≢ b → g a ≡ x → g b ≡ y → ((i : ℕ) → i ≢ a → i ≢ b → g i ≡ f i) → stored x y ≡ table_from g 0 n
  two_stores {x} {y} ha hb apart ga gb same =
      ext_get_or 0 (stored x y) (table_from g 0 n) (size x y ∙ sym (length_table g 0 n)) each
    where
      inner : List ℕ
      inner = set (table_from f 0 n) a x

      right : (i : ℕ) → i < n → get_or (table_from g 0 n) i 0 ≡ g i
      right i h = get_d_table g 0 n i h ∙ ap g (omega arith)

      by : (i : ℕ) → i < n → get_or (stored x y) i 0 ≡ g i
      by i h =
          split i b
          (λ e. rw e (get_or-set_same (set (table_from f 0 n) a x) b y 0 (rw (length-set, length_table) hb) ∙ sym gb))
          (λ e. get_or-set_other (set (table_from f 0 n) a x) b i y 0 e
          ∙ split i a
          (λ z. rw z (get_or-set_same (table_from f 0 n) a x 0 (rw length_table ha) ∙ sym ga))
          (λ z. get_or-set_other (table_from f 0 n) a i x 0 z ∙ get_d_table f 0 n i h ∙ ap f (omega arith) ∙ sym (same i z e)))

      each : (i : ℕ) → i < length (stored x y) → get_or (stored x y) i 0 ≡ get_or (table_from g 0 n) i 0
      each i h = let k : i < n = rw size at h in by i k ∙ sym (right i k)

-- what a cell holds, where it is on a chain and where it is on none
module _ (ch : ℕ → ℕ) (cell : ℕ) where
  pub cell_on : {b : ℕ} → ch cell ≡ b → b < 509 → cell_of ch cell ≡ below ch b cell
  unfolding cell_of
  cell_on e h = simp (e, lt-ltb _ _ h)

  pub cell_off : 509 ≤ ch cell → cell_of ch cell ≡ 0
  unfolding cell_of
  cell_off h = simp (le-ltb _ _ h)

-- two states that differ in one place: it is on no chain, and it is on chain b, whose nearest cell behind it is given
pub record Differ (off on : ℕ → ℕ) (b place cell : ℕ) : Type 0 where
  pub kept : (c : ℕ) → c ≢ place → on c ≡ off c
  pub none : off place ≡ 509
  pub some : on place ≡ b
  pub good : b < 509
  pub past : place < cell
  pub there : off cell ≡ b
  pub free : (c : ℕ) → place < c → c < cell → off c ≢ b

module _ (off on : ℕ → ℕ) (b place cell : ℕ) (d : Differ off on b place cell) where
  pub at_cell : cell_of on cell ≡ place + 1
  at_cell =
      let past : place < cell = d.past in
      let same : on cell ≡ b = d.kept cell (omega arith) ∙ d.there in
      let back : place + 1 - 1 ≡ place = omega arith in
      cell_on on cell same d.good
      ∙ only on b
      (record {
        most = omega arith;
        there = λ h. rw back d.some;
        free = λ p l q e. d.free p (omega arith) q (sym (d.kept p (omega arith)) ∙ e);
      })

  pub at_place : cell_of on place ≡ cell_of off cell
  at_place =
      let past : place < cell = d.past in
      let none : off place ≡ 509 = d.none in
      let good : b < 509 = d.good in
      let r = below off b cell in
      let h : Highest off b cell r = highest off b cell in
      let most : r ≤ cell = h.most in
      let low : place < r → ⊥ = λ l.
      split (r - 1) place
      (λ e. let z : off place ≡ b = rw e at (h.there (omega arith)) in omega arith)
      (λ e. d.free (r - 1) (omega arith) (omega arith) (h.there (omega arith)))
      in
      cell_on on place d.some good
      ∙ only on b
      (record {
        most = omega arith;
        there = λ l. d.kept (r - 1) (omega arith) ∙ h.there l;
        free = λ p l q e. h.free p l (omega arith) (sym (d.kept p (omega arith)) ∙ e);
      })
      ∙ sym (cell_on off cell d.there good)

  pub at_other : (i : ℕ) → i ≢ cell → i ≢ place → cell_of on i ≡ cell_of off i
  at_other i n m = order (off i) 509 within out
    where
      out : 509 ≤ off i → cell_of on i ≡ cell_of off i
      out l = let k = d.kept i m in cell_off on i (omega arith) ∙ sym (cell_off off i l)

      within : off i < 509 → cell_of on i ≡ cell_of off i
      within l =
          let past : place < cell = d.past in
          let none : off place ≡ 509 = d.none in
          let v = off i in
          let r = below off v i in
          let h : Highest off v i r = highest off v i in
          let most : r ≤ i = h.most in
          let other : 0 < r → r - 1 ≢ place = λ q e. let z : off place ≡ v = rw e at (h.there q) in omega arith in
          let gone : (p : ℕ) → r ≤ p → p < i → p ≡ place → on p ≢ v = λ p low high e z.
          let same : v ≡ b = sym z ∙ ap on e ∙ d.some in
          let far : i < cell → ⊥ = λ q. d.free i (omega arith) q same in
          h.free cell (omega arith) (omega arith) (d.there ∙ sym same)
          in
          cell_on on i (d.kept i m) l
          ∙ only on v
          (record {
            most = most;
            there = λ q. d.kept (r - 1) (other q) ∙ h.there q;
            free = λ p low high. split p place (gone p low high) (λ e z. h.free p low high (sym (d.kept p e) ∙ z));
          })
          ∙ sym (cell_on off i refl l)

  abbrev offs : List ℕ
  offs = table_from (cell_of off) 0 765

  abbrev ons : List ℕ
  ons = table_from (cell_of on) 0 765

  -- the two stores by which the place comes to the chain
  pub linked : cell < 765 → set (set offs place (get_or offs cell 0)) cell (place + 1) ≡ ons
  linked h =
      let past : place < cell = d.past in
      let read : get_or offs cell 0 ≡ cell_of off cell = get_d_table (cell_of off) 0 765 cell h ∙ ap (cell_of off) (omega arith) in
      two_stores (cell_of off) (cell_of on) 765 place cell (omega arith) h (omega arith)
      (at_place ∙ sym read) at_cell (λ i n m. at_other i m n)

  -- and those by which it leaves it
  pub unlinked : cell < 765 → set (set ons cell (get_or ons place 0)) place 0 ≡ offs
  unlinked h =
      let past : place < cell = d.past in
      let none : off place ≡ 509 = d.none in
      let read : get_or ons place 0 ≡ cell_of on place =
      get_d_table (cell_of on) 0 765 place (omega arith) ∙ ap (cell_of on) (omega arith)
      in
      two_stores (cell_of on) (cell_of off) 765 cell place h (omega arith) (omega arith)
      (sym (read ∙ at_place)) (cell_off off place (omega arith)) (λ i n m. sym (at_other i n m))
