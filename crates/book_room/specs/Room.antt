-- How the tables' numbers lie in the room that a host lends: 2,308 numbers, each thing at its place.
--
--      0  next, then end, how many orders are live, how many insides are held, the code, the first fault's number, the count of faults,
--         the first fault's reason, the rule for types that are not in the table (0 or 1), how many of them were counted apart
--     10  the id values of the live orders, in the order of their places (256)
--    266  the index over them (765)
--  1,031  the index over the insides (765)
--  1,796  the first of the two numbers of each inside's symbol (64)
--  1,860  the last (64)
--  1,924  six numbers more of each inside (384)
--
-- Assumes nothing.
use Rattle.std.specs.Prelude.{◌≡◌, cond, List, [], ◌∷◌, ◌++◌, ℕ, zero, suc, ◌+◌, ◌-◌, ◌*◌, ◌≤◌, ◌<◌, eqb, length, get_or, set, take}
use Rattle.wire.specs.Number.{be}
use Rattle.book_index.specs.Chains.{index_of}
use Rattle.book.specs.Applying.{is_strict}
use Rattle.book.specs.Rule.{Kept, Ready}
use Rattle.book.specs.Tables.{Book, holding_orders}
use Rattle.book.specs.declared.tables.Inside.{Inside}
use Rattle.book.specs.declared.tables.OpeningRule.{OpeningRule}
use Rattle.book.specs.declared.tables.OpeningRule.TheVariants.{Default, Strict}

-- the six numbers of an inside beside its symbol's two
abbrev pub row_of : Inside → List ℕ
row_of i = i.ask ∷ i.bid ∷ i.time ∷ i.askvolume ∷ i.bidvolume ∷ i.unsolicited ∷ []

unfoldable pub rows_of : List Inside → List ℕ
rows_of [] = []
rows_of (i ∷ is) = row_of i ++ rows_of is

-- how many numbers the room has
abbrev pub room_size : ℕ
room_size = 2308

-- a rule as a number, and the rule that a number is
abbrev pub rule_number : OpeningRule → ℕ
rule_number rule = cond (is_strict rule) 1 0

abbrev pub rule_by : ℕ → OpeningRule
rule_by n = cond (eqb n 1) Strict Default

-- the room, part by part
unfoldable pub parts_of : List ℕ → List ℕ → List ℕ → List ℕ → List ℕ → List ℕ → List ℕ → List ℕ
parts_of numbers keys index symbols fronts backs rows = numbers ++ (keys ++ (index ++ (symbols ++ (fronts ++ (backs ++ rows)))))

abbrev pub numbers_of : ℕ → ℕ → Book → List ℕ
numbers_of next end b =
    next
    ∷ end
    ∷ b.live
    ∷ b.held
    ∷ b.code
    ∷ b.faults.number
    ∷ b.faults.count
    ∷ b.faults.reason
    ∷ rule_number b.unlisted.rule
    ∷ b.unlisted.count
    ∷ []

-- the one room that holds next, end and a book's numbers
abbrev pub room_of : ℕ → ℕ → Book → List ℕ
room_of next end b =
    parts_of (numbers_of next end b) b.keys (index_of (take b.live b.keys)) (index_of (take b.held b.fronts)) b.fronts b.backs (rows_of b.insides)

-- a symbol by its two numbers: six bytes of the first, and the last (the law `symbol_by_lem`: the symbol itself)
abbrev pub symbol_by : ℕ → ℕ → List ℕ
symbol_by first last = take 6 (be 8 first) ++ be 8 last

-- the inside at a place of a room, and so many from a place on
abbrev pub inside_at : List ℕ → ℕ → Inside
inside_at room place =
    record {
      ask = get_or room (1924 + 6 * place) 0;
      bid = get_or room (1924 + 6 * place + 1) 0;
      time = get_or room (1924 + 6 * place + 2) 0;
      askvolume = get_or room (1924 + 6 * place + 3) 0;
      bidvolume = get_or room (1924 + 6 * place + 4) 0;
      symbol = symbol_by (get_or room (1796 + place) 0) (get_or room (1860 + place) 0);
      unsolicited = get_or room (1924 + 6 * place + 5) 0;
    }

unfoldable pub insides_from : List ℕ → ℕ → ℕ → List Inside
insides_from room place zero = []
insides_from room place (suc n) = inside_at room place ∷ insides_from room (suc place) n

-- the insides that a room holds
abbrev pub insides_in : List ℕ → List Inside
insides_in room = insides_from room 0 (get_or room 3 0)

-- a room that holds next, end and a book that keeps its rule
pub record Lies (room : List ℕ) (next end : ℕ) (b : Book) : Type 0 where
  pub kept : Kept b
  pub is : room ≡ room_of next end b

-- with a count of faults, and one of what was counted apart, that one more does not wrap
pub record Counts (room : List ℕ) (next end : ℕ) (b : Book) (number : ℕ) : Type 0 where
  pub lies : Lies room next end b
  pub counted : b.faults.count ≤ number
  pub apart : b.unlisted.count ≤ number
  pub within : number < 4_294_967_296

-- and a book that is ready for a message of a number
pub record Houses (room : List ℕ) (next end : ℕ) (b : Book) (number : ℕ) (s : List ℕ) : Type 0 where
  pub ready : Ready b number s
  pub is : room ≡ room_of next end b

-- ---- between two writes of one message

-- a room that holds a book whose parts have all their places
pub record Filled (room : List ℕ) (next end : ℕ) (b : Book) : Type 0 where
  pub is : room ≡ room_of next end b
  pub live : b.live ≤ 256
  pub held : b.held ≤ 64
  pub keys : length b.keys ≡ 256
  pub insides : length b.insides ≡ 64
  pub fronts : length b.fronts ≡ 64
  pub backs : length b.backs ≡ 64

-- with a live order at a place, which leaves; the last takes its place
pub record Leaves (room : List ℕ) (next end : ℕ) (b : Book) (place : ℕ) : Type 0 where
  pub filled : Filled room next end b
  pub within : place < b.live

abbrev pub keys_without : Book → ℕ → List ℕ
keys_without b place = set (set b.keys place (get_or b.keys (b.live - 1) 0)) (b.live - 1) 0

pub record Gone (room : List ℕ) (next end : ℕ) (b : Book) (place r : ℕ) : Type 0 where
  pub is : room ≡ room_of next end (holding_orders b b.orders (keys_without b place) (b.live - 1))
  pub last : r ≡ b.live - 1

-- with a place for one more order behind the last
pub record Free (room : List ℕ) (next end : ℕ) (b : Book) (live : ℕ) : Type 0 where
  pub filled : Filled room next end b
  pub at : live ≡ b.live
  pub few : live < 256

-- with a place for one more inside behind the last
pub record Spare (room : List ℕ) (next end : ℕ) (b : Book) (held : ℕ) : Type 0 where
  pub filled : Filled room next end b
  pub at : held ≡ b.held
  pub few : held < 64
