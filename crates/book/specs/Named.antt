-- The tables by name: the live order of an id's value, the inside of a symbol, and what a message does to the one that it names.
-- Assumes nothing.
use Rattle.std.specs.Prelude.{Bool, true, false, cond, List, [], ◌∷◌, ℕ, ◌-◌, eqb, Option, Some, None, Result, ok_or, is_some}
use Rattle.refusals.specs.declared.Refusal.{Refusal}
use Rattle.refusals.specs.declared.Refusal.TheVariants.{NotThere}
use Rattle.wire.specs.Choice.{listed_at}
use Rattle.wire.specs.Layout.{number_in}
use Rattle.message.specs.Row.{type_of, row_of}
use Rattle.message.specs.declared.kinds.Message.{Message}
use Rattle.book.specs.Lookup.{same_symbol}
use Rattle.book.specs.Tables.{Tables}
use Rattle.book.specs.Applying.{order_of, inside_of, repriced}
use Rattle.book.specs.declared.tables.Order.{Order}
use Rattle.book.specs.declared.tables.Inside.{Inside}
use Rattle.book.specs.declared.deciding.Effect.{Effect}
use Rattle.book.specs.declared.deciding.Effect.TheVariants.{Put, Replace, Remove, Renew, Enter, Record, Unchanged, Fault, CountApart}

-- the first of a list that passes a test
unfoldable pub first_that : {A : Type 0} → (A → Bool) → List A → Option A
first_that test [] = None
first_that test (x ∷ xs) = cond (test x) (Some x) (first_that test xs)

abbrev pub is_there : {A : Type 0} → Option A → Bool
is_there found = is_some found

-- "Two ids with the same value are the same order": the live order of a value
abbrev pub has_id : ℕ → Order → Bool
has_id value o = eqb o.id value

unfoldable pub order_under : Tables → ℕ → Option Order
order_under t value = first_that (has_id value) t.orders

-- the inside of a symbol
abbrev pub has_symbol : List ℕ → Inside → Bool
has_symbol symbol i = same_symbol i.symbol symbol

unfoldable pub inside_under : Tables → List ℕ → Option Inside
inside_under t symbol = first_that (has_symbol symbol) t.insides

-- what a question answers of what is there
abbrev pub order_reply : Option Order → Result Order Refusal
order_reply found = ok_or found NotThere

abbrev pub inside_reply : Option Inside → Result Inside Refusal
inside_reply found = ok_or found NotThere

-- whether a message faults
abbrev pub is_fault : Effect → Bool
is_fault Put = false
is_fault (Replace place shares price) = false
is_fault (Remove place) = false
is_fault (Renew place) = false
is_fault Enter = false
is_fault (Record code) = false
is_fault Unchanged = false
is_fault (Fault reason) = true
is_fault CountApart = false

-- an Update's shares and price in the place of the order's own
abbrev pub order_updated : ℕ → ℕ → Option Order → Option Order
order_updated shares price None = None
order_updated shares price (Some o) = Some (repriced o shares price)

-- "24 and 25 subtract executed, and at zero the order leaves"
abbrev pub order_executed : ℕ → Option Order → Option Order
order_executed executed None = None
order_executed executed (Some o) = cond (eqb (o.shares - executed) 0) None (Some (repriced o (o.shares - executed) o.price))

-- the order that a message names, behind the message; any other type leaves every order as it was
abbrev pub order_after : Message → Option Order → Option Order
order_after m old =
    let n = number_in (row_of m) in
    listed_at (type_of m)
    ((21, Some (order_of m))
    ∷ (22, order_updated (n 2) (n 3) old)
    ∷ (23, None)
    ∷ (24, order_executed (n 2) old)
    ∷ (25, order_executed (n 2) old)
    ∷ [])
    old

-- the inside of the symbol that a message names, behind the message
abbrev pub inside_after : Message → Option Inside → Option Inside
inside_after m old = listed_at (type_of m) ((26, Some (inside_of m)) ∷ []) old
