-- The rule of a book: what an opening gives and every message keeps. It is all that a contract takes for granted.
-- Assumes nothing.
use Rattle.std.specs.Prelude.{◌≡◌, true, false, ◌&&◌, ◌||◌, List, ℕ, ◌≤◌, ◌<◌, eqb, length, get_or}
pub use Rattle.book_index.specs.Chains.{Distinct}
use Rattle.fields.specs.Rules.{good_symbol, good_side, good_quantity, good_price, good_inside_price, good_unsolicited, good_session}
use Rattle.book.specs.Tables.{Book, Tables, ids_of, fronts_of, backs_of, rep, view, blank, no_inside}
use Rattle.message.specs.Whole.{Whole}
use Rattle.book.specs.declared.tables.Order.{Order}
use Rattle.book.specs.declared.tables.Inside.{Inside}

-- a live order: 1 share or more, a good side, symbol and price
pub record GoodOrder (o : Order) : Type 0 where
  pub side : good_side o.side ≡ true
  pub shares : good_quantity o.shares ≡ true
  pub symbol : good_symbol o.symbol ≡ true
  pub price : good_price o.price ≡ true
  pub unsolicited : good_unsolicited o.unsolicited ≡ true

pub record GoodInside (i : Inside) : Type 0 where
  pub symbol : good_symbol i.symbol ≡ true
  pub long : length i.symbol ≡ 14
  pub ask : good_inside_price i.ask ≡ true
  pub bid : good_inside_price i.bid ≡ true
  pub unsolicited : good_unsolicited i.unsolicited ≡ true

-- no two have both numbers the same: of a symbol's two numbers, no two symbols are the same
abbrev pub Apart : List ℕ → List ℕ → Type 0
Apart xs ys = (i j : ℕ) → i < j → j < length xs → (eqb (get_or xs i 0) (get_or xs j 0) && eqb (get_or ys i 0) (get_or ys j 0)) ≡ false

-- the tables: at most 256 orders and 64 insides, ids apart, symbols of insides apart, every order and inside good, and the code 0 or one of the sessions
pub record Sound (t : Tables) : Type 0 where
  pub few : length t.orders ≤ 256
  pub distinct : Distinct (ids_of t.orders)
  pub orders : (i : ℕ) → i < length t.orders → GoodOrder (get_or t.orders i blank)
  pub scarce : length t.insides ≤ 64
  pub insides : (i : ℕ) → i < length t.insides → GoodInside (get_or t.insides i no_inside)
  pub apart : Apart (fronts_of t.insides) (backs_of t.insides)
  pub coded : (eqb t.code 0 || good_session t.code) ≡ true

-- a book holds sound tables in the one way that `rep` says; the sizes follow from that, and are named for those who index
pub record Kept (b : Book) : Type 0 where
  pub same : b ≡ rep (view b)
  pub sound : Sound (view b)
  pub live : b.live ≤ 256
  pub held : b.held ≤ 64
  pub orders : length b.orders ≡ 256
  pub keys : length b.keys ≡ 256
  pub insides : length b.insides ≡ 64
  pub fronts : length b.fronts ≡ 64
  pub backs : length b.backs ≡ 64

-- a book that has every message below a number behind it, and the whole message of that number: no more messages faulted or were
-- counted apart than there are numbers below, so neither count ever wraps
pub record Ready (b : Book) (number : ℕ) (s : List ℕ) : Type 0 where
  pub kept : Kept b
  pub whole : Whole s
  pub counted : b.faults.count ≤ number
  pub apart : b.unlisted.count ≤ number
  pub within : number < 4_294_967_296
