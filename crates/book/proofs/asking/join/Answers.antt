-- The first that holds: another symbol or side, the first order, a better price, the same price.
-- Assumes nothing.
use mathlib.Core.Path.{◌≡◌, ◌∙◌, sym}
use mathlib.Core.Logic.{◌≢◌}
use mathlib.Core.Bool.{true, false}
use mathlib.Core.List.{List}
use Prim.Native.Nat.{ℕ}
use Prim.{tt}
use native.Mathlib.Omega.{arith}
use borrow.Author.Tests.{eq-eqb, ne_eqb}
use Rattle.book.specs.Asking.{alone, better, is_of, joined, together}
use Rattle.book.specs.declared.asking.Level.{Level}
use Rattle.book.specs.declared.tables.Order.{Order}
use Rattle.book.proofs.asking.join.Goals as goal

module _ (symbol : List ℕ) (side : ℕ) (o : Order) (level : Level) where
  other : is_of symbol side o ≡ false → level ≡ joined symbol side o level
  unfolding joined
  other h = simp h

  module _ (h : is_of symbol side o ≡ true) where
    first : level.orders ≡ 0 → alone o ≡ joined symbol side o level
    unfolding joined
    first e = simp (h, eq-eqb _ _ e)

    module _ (n : level.orders ≢ 0) where
      ahead : better side o.price level.price ≡ true → alone o ≡ joined symbol side o level
      unfolding joined
      ahead b = simp (h, ne_eqb _ _ n, b)

      even : better side o.price level.price ≡ false → o.price ≡ level.price → together o level ≡ joined symbol side o level
      unfolding joined
      even b e = simp (h, ne_eqb _ _ n, b, eq-eqb _ _ e)

      behind : better side o.price level.price ≡ false → o.price ≢ level.price → level ≡ joined symbol side o level
      unfolding joined
      behind b e = simp (h, ne_eqb _ _ n, b, ne_eqb _ _ e)

pub returns-then-not-belongs : goal.returns-then-not-belongs
returns-then-not-belongs c symbol p = record { same = other _ _ _ _ (sym (c.belongs.ensures symbol p) ∙ c.if-not-belongs.true); most = omega arith }

pub returns-then-level-eq0 : goal.returns-then-level-eq0
returns-then-level-eq0 c symbol p = record { same = first _ _ _ _ (sym (c.belongs.ensures symbol p) ∙ c.if-not-belongs.false) c.if-level-eq0.true; most = omega arith }

pub returns-then-better : goal.returns-then-better
returns-then-better c symbol p = record { same = ahead _ _ _ _ (sym (c.belongs.ensures symbol p) ∙ c.if-not-belongs.false) c.if-level-eq0.false (sym c.better.ensures ∙ c.if-better.true); most = omega arith }

pub returns-then-order-level : goal.returns-then-order-level
returns-then-order-level c symbol p = record { same = even _ _ _ _ (sym (c.belongs.ensures symbol p) ∙ c.if-not-belongs.false) c.if-level-eq0.false (sym c.better.ensures ∙ c.if-better.false) c.if-order-level.true; most = omega arith }

pub returns : goal.returns
returns c symbol p = record { same = behind _ _ _ _ (sym (c.belongs.ensures symbol p) ∙ c.if-not-belongs.false) c.if-level-eq0.false (sym c.better.ensures ∙ c.if-better.false) c.if-order-level.false; most = omega arith }

pub belongs-requires : goal.belongs-requires
belongs-requires c = tt

pub better-requires : goal.better-requires
better-requires c = tt
