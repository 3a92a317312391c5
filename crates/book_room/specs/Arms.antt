-- What a message has done once its arm is through: the room holds the tables behind it, and what is left to do in the session's
-- table of orders.
-- Assumes nothing.
use Rattle.std.specs.Prelude.{◌≡◌, List, ℕ, ◌<◌, get_or, set, take, Option, Some, None}
use Rattle.fields.specs.Id.{number_of}
use Rattle.message.specs.Row.{fields_of}
use Rattle.book.specs.Applying.{Naming, apply_of, message_in, order_of, repriced}
use Rattle.book.specs.Lookup.{key_at, place_found}
use Rattle.book.specs.Tables.{Book, blank, no_order, rep, view}
use Rattle.book.specs.declared.tables.Order.{Order}
use Rattle.book_room.specs.Room.{Houses, room_of}
use Rattle.book_room.specs.declared.adding.Placed.{Placed}
use Rattle.book_room.specs.declared.changing.Name.{Name}
use Rattle.book_room.specs.declared.changing.Act.{Act}
use Rattle.book_room.specs.declared.changing.Act.TheVariants as change

-- the book behind the message of a number
abbrev pub after : Book → ℕ → List ℕ → Book
after b number s = rep (apply_of (view b) number s)

-- ---- an Add

abbrev pub orders_put : Option Placed → List ℕ → List Order → List Order
orders_put (Some placed) s os = set os placed.place (order_of (fields_of 21 s))
orders_put None s os = os

pub record Added (room : List ℕ) (next end : ℕ) (b : Book) (number : ℕ) (s : List ℕ) (r : Option Placed) : Type 0 where
  pub is : room ≡ room_of next end (after b number s)
  pub orders : (after b number s).orders ≡ orders_put r s b.orders
  pub fits : (placed : Placed) → r ≡ Some placed → (placed.place < 256) × Naming 55 s placed.key

-- ---- a message that names an order

abbrev pub named_in : Book → List ℕ → Name
named_in b s =
    let key = number_of (message_in s).id in
    record { key = key; order = key_at key (take b.live b.keys) }

-- what deciding is told: the order that is named, and the shares and the price at its place
pub record Known (room : List ℕ) (next end : ℕ) (b : Book) (number : ℕ) (s : List ℕ) (n : Name) (q p : ℕ) : Type 0 where
  pub houses : Houses room next end b number s
  pub named : n ≡ named_in b s
  pub shares : q ≡ (get_or b.orders (place_found (named_in b s).order) blank).shares
  pub price : p ≡ (get_or b.orders (place_found (named_in b s).order) blank).price

abbrev pub orders_changed : Act → List Order → List Order
orders_changed (change.Replace place shares price) os = set os place (repriced (get_or os place blank) shares price)
orders_changed (change.Remove place last) os = set (set os place (get_or os last blank)) last no_order
orders_changed change.Nothing os = os

pub record Changed (room : List ℕ) (next end : ℕ) (b : Book) (number : ℕ) (s : List ℕ) (r : Act) : Type 0 where
  pub is : room ≡ room_of next end (after b number s)
  pub orders : (after b number s).orders ≡ orders_changed r b.orders
  pub replaces : (place shares price : ℕ) → r ≡ change.Replace place shares price → place ≡ place_found (named_in b s).order
  pub removes : (place last : ℕ) → r ≡ change.Remove place last → (place ≡ place_found (named_in b s).order) × (last < 256)

-- ---- any other

pub record Told (room : List ℕ) (next end : ℕ) (b : Book) (number : ℕ) (s : List ℕ) : Type 0 where
  pub is : room ≡ room_of next end (after b number s)
  pub orders : (after b number s).orders ≡ b.orders
