-- Document 01, "Asking": by order id, by symbol and side, the inside by symbol; 12 where a rule is broken, 13 where there is none.
-- Assumes nothing.
use Rattle.std.specs.Prelude.{◌≡◌, Bool, cond, not, ◌&&◌, List, [], ◌∷◌, ℕ, ◌+◌, ◌≤◌, eqb, ltb, get_or, Result, Ok, Err}
use Rattle.refusals.specs.declared.Refusal.{Refusal}
use Rattle.refusals.specs.declared.Refusal.TheVariants.{BadQuestion, NotThere}
use Rattle.wire.specs.Choice.{first_of}
use Rattle.fields.specs.Id.{good_id, number_of}
use Rattle.fields.specs.Rules.{good_symbol, good_side}
use Rattle.book.specs.Lookup.{is_at, place_found, key_at, symbol_at, same_symbol}
use Rattle.book.specs.Tables.{Tables, blank, gone, ids_of, fronts_of, backs_of}
use Rattle.book.specs.declared.tables.Order.{Order}
use Rattle.book.specs.declared.tables.Inside.{Inside}
use Rattle.book.specs.declared.asking.Level.{Level}

-- ---- by order id: the order; 12 where the id breaks its rule, 13 where it is not live

unfoldable pub order_asked : Tables → List ℕ → Result Order Refusal
order_asked t id =
    let found = key_at (number_of id) (ids_of t.orders) in
    first_of
    ((not (good_id id), Err BadQuestion)
    ∷ (not (is_at found), Err NotThere)
    ∷ [])
    (Ok (get_or t.orders (place_found found) blank))

-- ---- the inside by symbol: likewise

unfoldable pub inside_for : List Inside → List ℕ → Result Inside Refusal
inside_for held symbol =
    let found = symbol_at symbol (fronts_of held) (backs_of held) in
    first_of
    ((not (good_symbol symbol), Err BadQuestion)
    ∷ (not (is_at found), Err NotThere)
    ∷ [])
    (Ok (get_or held (place_found found) gone))

abbrev pub inside_asked : Tables → List ℕ → Result Inside Refusal
inside_asked t = inside_for t.insides

-- ---- by symbol and side: the best price, the sum of shares there and the number of orders

-- highest bid, lowest ask: p is better than q
unfoldable pub better : ℕ → ℕ → ℕ → Bool
better side p q = cond (eqb side 0x42) (ltb q p) (ltb p q)

unfoldable pub is_of : List ℕ → ℕ → Order → Bool
is_of symbol side o = same_symbol o.symbol symbol && eqb o.side side

-- how many orders pass a test, and the sum of their shares
unfoldable pub count : (Order → Bool) → List Order → ℕ
count test [] = 0
count test (o ∷ os) = cond (test o) 1 0 + count test os

unfoldable pub sum : (Order → Bool) → List Order → ℕ
sum test [] = 0
sum test (o ∷ os) = cond (test o) o.shares 0 + sum test os

abbrev pub at_price : List ℕ → ℕ → ℕ → Order → Bool
at_price symbol side p o = is_of symbol side o && eqb o.price p

abbrev pub beats : List ℕ → ℕ → ℕ → Order → Bool
beats symbol side p o = is_of symbol side o && better side o.price p

-- the best of the live orders of a symbol and side: some have that price and none has a better one; their shares and their number
pub record Best (symbol : List ℕ) (side : ℕ) (live : List Order) (level : Level) : Type 0 where
  pub some : 1 ≤ count (at_price symbol side level.price) live
  pub none : count (beats symbol side level.price) live ≡ 0
  pub shares : level.shares ≡ sum (at_price symbol side level.price) live
  pub orders : level.orders ≡ count (at_price symbol side level.price) live

-- how it is worked out (the laws `best_is` and `best_one`: it is the best, and nothing else is): order after order, from the last
abbrev pub no_level : Level
no_level = record { price = 0; shares = 0; orders = 0 }

abbrev pub alone : Order → Level
alone o = record { price = o.price; shares = o.shares; orders = 1 }

abbrev pub together : Order → Level → Level
together o level = record { price = level.price; shares = level.shares + o.shares; orders = level.orders + 1 }

unfoldable pub joined : List ℕ → ℕ → Order → Level → Level
joined symbol side o level =
    first_of
    ((not (is_of symbol side o), level)
    ∷ (eqb level.orders 0, alone o)
    ∷ (better side o.price level.price, alone o)
    ∷ (eqb o.price level.price, together o level)
    ∷ [])
    level

unfoldable pub best_in : List ℕ → ℕ → List Order → Level
best_in symbol side [] = no_level
best_in symbol side (o ∷ os) = joined symbol side o (best_in symbol side os)

-- 12 for a bad symbol or side, 13 exactly if no such order is live
unfoldable pub reply_with : Bool → Level → Result Level Refusal
reply_with good level =
    first_of
    ((not good, Err BadQuestion)
    ∷ (eqb level.orders 0, Err NotThere)
    ∷ [])
    (Ok level)

unfoldable pub best_for : List Order → List ℕ → ℕ → Result Level Refusal
best_for live symbol side = reply_with (good_symbol symbol && good_side side) (best_in symbol side live)

abbrev pub best_asked : Tables → List ℕ → ℕ → Result Level Refusal
best_asked t = best_for t.orders

-- the sums so far are small enough for one order more: no sum of shares wraps
pub record Room (level : Level) : Type 0 where
  pub shares : level.shares ≤ 1_095_216_660_225
  pub orders : level.orders ≤ 255

-- one order more, and how many shares it can have at most
pub record Joins (symbol : List ℕ) (side : ℕ) (o : Order) (level r : Level) : Type 0 where
  pub same : r ≡ joined symbol side o level
  pub most : o.shares ≤ 4_294_967_295
