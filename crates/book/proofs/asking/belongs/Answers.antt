-- The side, then the symbol.
-- Assumes nothing.
use mathlib.Core.Path.{◌≡◌, ◌∙◌}
use mathlib.Core.Logic.{◌≢◌}
use mathlib.Core.Bool.{Bool, false, and-false, and-true}
use mathlib.Core.List.{List}
use Prim.Native.Nat.{ℕ}
use borrow.Author.Tests.{eq-eqb, ne_eqb}
use Rattle.book.specs.Asking.{is_of}
use Rattle.book.specs.Lookup.{same_symbol, same_parts}
use Rattle.book.specs.declared.tables.Order.{Order}
use Rattle.book.proofs.Symbols.{same_apart}
use Rattle.book.proofs.asking.belongs.Goals as goal

module _ (o : Order) (symbol : List ℕ) (side : ℕ) where
  other-side : o.side ≢ side → false ≡ is_of symbol side o
  unfolding is_of
  other-side n = simp (ne_eqb _ _ n, and-false)

  this-side : {r : Bool} → o.side ≡ side → r ≡ same_symbol o.symbol symbol → r ≡ is_of symbol side o
  unfolding is_of
  this-side e same = simp (eq-eqb _ _ e, and-true) same

pub returns-then-order-side : goal.returns-then-order-side
unfolding same_parts
returns-then-order-side c symbol p = this-side _ _ _ c.if-order-side.true (c.eq.ensures ∙ same_apart _ _ c.from.ensures p)

pub returns-else-order-side : goal.returns-else-order-side
returns-else-order-side c symbol p = ne_eqb _ _ c.if-order-side.false ∙ other-side _ _ _ c.if-order-side.false
