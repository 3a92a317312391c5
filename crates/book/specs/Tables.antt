-- The tables that document 01 speaks of, and how a book holds them.
-- Assumes nothing.
use Rattle.std.specs.Prelude.{Bool, not, List, [], ◌++◌, map, ℕ, ◌-◌, eqb, length, take, replicate}
use Rattle.book.specs.Lookup.{front_of, back_of}
use Rattle.book.specs.declared.tables.Order.{Order}
use Rattle.book.specs.declared.tables.Inside.{Inside}
use Rattle.book.specs.declared.tables.Faults.{Faults}
use Rattle.book.specs.declared.tables.OpeningRule.{OpeningRule}

-- the types that are not in the table: the rule that the opening chose for them, and how many messages of such a type were counted apart
pub record Unlisted : Type 0 where
  pub rule : OpeningRule
  pub count : ℕ

-- what a session's tables mean: the live orders in the order of their places, the insides, the code, the faults, the unlisted types
pub record Tables : Type 0 where
  pub orders : List Order
  pub insides : List Inside
  pub code : ℕ
  pub faults : Faults
  pub unlisted : Unlisted

abbrev pub no_faults : Faults
no_faults = record { number = 0; count = 0; reason = 0 }

-- a book is doubtful exactly if its count of faults is not 0
abbrev pub doubtful : Faults → Bool
doubtful faults = not (eqb faults.count 0)

-- an opening empties everything and chooses the rule; before the first Trading Session the code is 0
abbrev pub fresh : OpeningRule → Tables
fresh rule = record { orders = []; insides = []; code = 0; faults = no_faults; unlisted = record { rule = rule; count = 0 } }

-- tables with one part other than it was, and every other part as it was
abbrev pub with_orders : Tables → List Order → Tables
with_orders t orders = record { orders = orders; insides = t.insides; code = t.code; faults = t.faults; unlisted = t.unlisted }

abbrev pub with_insides : Tables → List Inside → Tables
with_insides t insides = record { orders = t.orders; insides = insides; code = t.code; faults = t.faults; unlisted = t.unlisted }

abbrev pub with_code : Tables → ℕ → Tables
with_code t code = record { orders = t.orders; insides = t.insides; code = code; faults = t.faults; unlisted = t.unlisted }

abbrev pub with_faults : Tables → Faults → Tables
with_faults t faults = record { orders = t.orders; insides = t.insides; code = t.code; faults = faults; unlisted = t.unlisted }

abbrev pub with_unlisted : Tables → Unlisted → Tables
with_unlisted t unlisted = record { orders = t.orders; insides = t.insides; code = t.code; faults = t.faults; unlisted = unlisted }

-- what a place holds that is not used
abbrev pub no_order : Order
no_order = record { id = 0; price = 0; shares = 0; firm = replicate 4 0; symbol = replicate 14 0; side = 0; unsolicited = 0 }

abbrev pub no_inside : Inside
no_inside = record { ask = 0; bid = 0; time = 0; askvolume = 0; bidvolume = 0; symbol = replicate 14 0; unsolicited = 0 }

-- what is read behind the last order, and behind the last inside
abbrev pub blank : Order
blank = record { id = 0; price = 0; shares = 0; firm = []; symbol = []; side = 0; unsolicited = 0 }

abbrev pub gone : Inside
gone = record { ask = 0; bid = 0; time = 0; askvolume = 0; bidvolume = 0; symbol = []; unsolicited = 0 }

-- n places: what there is, then places that are not used
unfoldable pub places {ℓ} : {A : Type ℓ} → ℕ → A → List A → List A
places n dead xs = xs ++ replicate (n - length xs) dead

abbrev pub ids_of : List Order → List ℕ
ids_of = map (λ o. o.id)

abbrev pub fronts_of : List Inside → List ℕ
fronts_of = map (λ i. front_of i.symbol)

abbrev pub backs_of : List Inside → List ℕ
backs_of = map (λ i. back_of i.symbol)

-- the tables as they lie in a session's memory: each in its places, beside the orders their id values, and beside the insides the two
-- numbers of their symbols, which a look-up goes over
pub record Book : Type 0 where
  pub orders : List Order
  pub keys : List ℕ
  pub live : ℕ
  pub insides : List Inside
  pub fronts : List ℕ
  pub backs : List ℕ
  pub held : ℕ
  pub code : ℕ
  pub faults : Faults
  pub unlisted : Unlisted

-- a book with the parts of one table other than they were, or the code and the faults, or what is counted apart
abbrev pub holding_orders : Book → List Order → List ℕ → ℕ → Book
holding_orders b orders keys live =
    record { orders = orders; keys = keys; live = live; insides = b.insides; fronts = b.fronts; backs = b.backs; held = b.held; code = b.code; faults = b.faults; unlisted = b.unlisted }

abbrev pub holding_insides : Book → List Inside → List ℕ → List ℕ → ℕ → Book
holding_insides b insides fronts backs held =
    record { orders = b.orders; keys = b.keys; live = b.live; insides = insides; fronts = fronts; backs = backs; held = held; code = b.code; faults = b.faults; unlisted = b.unlisted }

abbrev pub holding_marks : Book → ℕ → Faults → Book
holding_marks b code faults =
    record { orders = b.orders; keys = b.keys; live = b.live; insides = b.insides; fronts = b.fronts; backs = b.backs; held = b.held; code = code; faults = faults; unlisted = b.unlisted }

abbrev pub holding_unlisted : Book → Unlisted → Book
holding_unlisted b unlisted =
    record { orders = b.orders; keys = b.keys; live = b.live; insides = b.insides; fronts = b.fronts; backs = b.backs; held = b.held; code = b.code; faults = b.faults; unlisted = unlisted }

-- the one book that holds given tables
abbrev pub rep : Tables → Book
rep t =
    record {
      orders = places 256 no_order t.orders;
      keys = places 256 0 (ids_of t.orders);
      live = length t.orders;
      insides = places 64 no_inside t.insides;
      fronts = places 64 0 (fronts_of t.insides);
      backs = places 64 0 (backs_of t.insides);
      held = length t.insides;
      code = t.code;
      faults = t.faults;
      unlisted = t.unlisted;
    }

-- the tables that a book holds
abbrev pub view : Book → Tables
view b = record { orders = take b.live b.orders; insides = take b.held b.insides; code = b.code; faults = b.faults; unlisted = b.unlisted }
