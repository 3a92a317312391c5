-- A look-up by what it is asked for: a value that no id has, a symbol that is none, or any other.
-- Assumes nothing.
use mathlib.Core.Path.{◌≡◌, ap₂, ◌∙◌, sym}
use mathlib.Core.Logic.{◌≢◌}
use mathlib.Core.List.{List}
use Prim.Native.Nat.{ℕ}
use borrow.Author.Tests.{eq-eqb, ne_eqb}
use Rattle.std.specs.Prelude.{None, Option}
use Rattle.fields.specs.Id.{no_value}
use Rattle.book.specs.Lookup.{front_of, back_of, key_from, key_at, pair_from, symbol_at}

pub key_none : (key : ℕ) (keys : List ℕ) → key ≡ no_value → None ≡ key_at key keys
unfolding key_at
key_none key keys e = simp (eq-eqb _ _ e)

pub key_some : (key : ℕ) (keys : List ℕ) → key ≢ no_value → key_at key keys ≡ key_from 0 key keys
unfolding key_at
key_some key keys e = simp (ne_eqb _ _ e)

module _ (symbol fronts backs : List ℕ) {first last : ℕ} (f : first ≡ front_of symbol) (b : last ≡ back_of symbol) where
  pub symbol_none : first ≡ 0 → None ≡ symbol_at symbol fronts backs
  unfolding symbol_at
  symbol_none e = simp (eq-eqb _ _ (sym f ∙ e))

  pub symbol_some : {found : Option ℕ} → first ≢ 0 → pair_from 0 first last fronts backs ≡ found → found ≡ symbol_at symbol fronts backs
  unfolding symbol_at
  symbol_some e h = sym h ∙ ap₂ (λ (x y : ℕ). pair_from 0 x y fronts backs) f b ∙ simp (ne_eqb _ _ (λ z. e (f ∙ z)))
