-- Document 01, "Applying a message": the fault that is given, the effect, and the tables behind it.
-- Assumes nothing.
use Rattle.std.specs.Prelude.{◌≡◌, Bool, true, false, cond, not, ◌&&◌, List, [], ◌∷◌, ◌++◌, ℕ, ◌+◌, ◌-◌, ◌≤◌, eqb, leb, ltb, length, get_or, set, Option}
use Rattle.wire.specs.Choice.{first_of, listed_at}
use Rattle.wire.specs.Layout.{number_in, text_in}
use Rattle.wire.specs.Number.{part}
use Rattle.fields.specs.Id.{number_of}
use Rattle.book_index.specs.Changes.{without}
use Rattle.message.specs.Layouts.{type_in}
use Rattle.message.specs.Row.{no_text, fields_of, type_of, row_of}
use Rattle.message.specs.Rules.{good_message}
use Rattle.message.specs.Table.{payload_of}
use Rattle.message.specs.Whole.{Whole}
use Rattle.message.specs.declared.kinds.Message.{Message}
use Rattle.book.specs.Lookup.{is_at, place_found, key_at, symbol_at}
use Rattle.book.specs.Reasons.{reason_number}
use Rattle.book.specs.Tables.{Tables, Unlisted, with_orders, with_insides, with_code, with_faults, with_unlisted, blank, ids_of, fronts_of, backs_of}
use Rattle.book.specs.declared.tables.Order.{Order}
use Rattle.book.specs.declared.tables.Inside.{Inside}
use Rattle.book.specs.declared.tables.Faults.{Faults}
use Rattle.book.specs.declared.tables.OpeningRule.{OpeningRule}
use Rattle.book.specs.declared.tables.OpeningRule.TheVariants.{Default, Strict}
use Rattle.book.specs.declared.deciding.Effect.{Effect}
use Rattle.book.specs.declared.deciding.Effect.TheVariants.{Put, Replace, Remove, Renew, Enter, Record, Unchanged, Fault, CountApart}
use Rattle.book.specs.declared.deciding.Reason.TheVariants as reason

abbrev pub message_in : List ℕ → Message
message_in s = fields_of (type_in s) s

-- a whole message with the value of the id that it names
pub record Keyed (s : List ℕ) (key : ℕ) : Type 0 where
  pub whole : Whole s
  pub value : key ≡ number_of (message_in s).id

-- at least n bytes that name an order, whose id stands behind the time, and its value
pub record Naming (n : ℕ) (s : List ℕ) (key : ℕ) : Type 0 where
  pub room : n ≤ length s
  pub value : key ≡ number_of (part s 7 14)

-- what the tables hold of what a message names, the order of its id and for a Top of Book the inside of its symbol: how many
-- orders are live, where the order is and its shares and price, how many insides are held and where the symbol's is; and the rule that
-- the opening chose
pub record Seen : Type 0 where
  pub live : ℕ
  pub order : Option ℕ
  pub shares : ℕ
  pub price : ℕ
  pub held : ℕ
  pub inside : Option ℕ
  pub rule : OpeningRule

abbrev pub topic_of : Message → List ℕ
topic_of m = cond (eqb (type_of m) 26) m.symbol no_text

abbrev pub there_of : List Order → Option ℕ → Order
there_of orders found = get_or orders (place_found found) blank

abbrev pub order_seen : Tables → Message → Option ℕ
order_seen t m = key_at (number_of m.id) (ids_of t.orders)

abbrev pub seen_with : ℕ → Option ℕ → Order → ℕ → Option ℕ → OpeningRule → Seen
seen_with live order there held inside rule =
    record { live = live; order = order; shares = there.shares; price = there.price; held = held; inside = inside; rule = rule }

unfoldable pub seen_of : Tables → Message → Seen
seen_of t m =
    seen_with (length t.orders) (order_seen t m) (there_of t.orders (order_seen t m)) (length t.insides)
    (symbol_at (topic_of m) (fronts_of t.insides) (backs_of t.insides))
    t.unlisted.rule

-- 22 to 25 name an order; 24 and 25 execute it. Executed and remaining are the fields 2 and 3 of both
abbrev pub names : ℕ → Bool
names type = leb 22 type && leb type 25

abbrev pub executes : ℕ → Bool
executes type = leb 24 type && leb type 25

-- whether a type is in the table, and whether a rule is the strict one
abbrev pub is_listed : ℕ → Bool
is_listed type = not (eqb (payload_of type) 255)

abbrev pub is_strict : OpeningRule → Bool
is_strict Default = false
is_strict Strict = true

-- "The lowest reason that holds is given": each fault, and when; the first under the strict rule only
abbrev pub faults_of : Seen → Message → List (Bool × Effect)
faults_of seen m =
    let type = type_of m in
    let executed = number_in (row_of m) 2 in
    let remaining = number_in (row_of m) 3 in
    (not (is_listed type) && is_strict seen.rule, Fault reason.Unlisted)
    ∷ (not (good_message m), Fault reason.RuleBroken)
    ∷ (eqb type 21 && is_at seen.order, Fault reason.AlreadyLive)
    ∷ (eqb type 21 && leb 256 seen.live, Fault reason.OrdersFull)
    ∷ (names type && not (is_at seen.order), Fault reason.NotLive)
    ∷ (executes type && ltb seen.shares executed, Fault reason.ExecutedTooMuch)
    ∷ (executes type && not (eqb remaining (seen.shares - executed)), Fault reason.WrongRemaining)
    ∷ (eqb type 26 && (not (is_at seen.inside) && leb 64 seen.held), Fault reason.InsidesFull)
    ∷ []

-- 24 and 25 subtract executed, and at zero the order leaves
abbrev pub execution_of : Option ℕ → ℕ → ℕ → ℕ → Effect
execution_of order shares price executed =
    cond (eqb (shares - executed) 0)
    (Remove (place_found order))
    (Replace (place_found order) (shares - executed) price)

-- what a message does where no fault holds; 27, 28, 9, 11 and 12 change nothing, and a type that is not in the table is counted apart
abbrev pub change_of : Seen → Message → Effect
change_of seen m =
    let n = number_in (row_of m) in
    listed_at (type_of m)
    ((20, Record (n 1))
    ∷ (21, Put)
    ∷ (22, Replace (place_found seen.order) (n 2) (n 3))
    ∷ (23, Remove (place_found seen.order))
    ∷ (24, execution_of seen.order seen.shares seen.price (n 2))
    ∷ (25, execution_of seen.order seen.shares seen.price (n 2))
    ∷ (26, cond (is_at seen.inside) (Renew (place_found seen.inside)) Enter)
    ∷ [])
    (cond (is_listed (type_of m)) Unchanged CountApart)

unfoldable pub effect_of : Seen → Message → Effect
effect_of seen m = first_of (faults_of seen m) (change_of seen m)

-- all that a type does that is not in the table (the law `unlisted_does`)
abbrev pub unlisted_under : OpeningRule → Effect
unlisted_under rule = cond (is_strict rule) (Fault reason.Unlisted) CountApart

-- whether a message is counted apart (the law `apart_grows`: it and no other)
abbrev pub is_apart : OpeningRule → List ℕ → Bool
is_apart rule s = not (is_listed (type_in s)) && not (is_strict rule)

-- the order that an Add makes
unfoldable pub order_of : Message → Order
order_of m =
    let n = number_in (row_of m) in
    let t = text_in (row_of m) in
    record { id = number_of (t 1); side = n 2; shares = n 3; symbol = t 4; price = n 5; firm = t 6; unsolicited = n 7 }

-- the inside that a Top of Book tells, all seven fields
unfoldable pub inside_of : Message → Inside
inside_of m =
    let n = number_in (row_of m) in
    record { time = n 0; symbol = text_in (row_of m) 1; ask = n 2; askvolume = n 3; bid = n 4; bidvolume = n 5; unsolicited = n 6 }

-- an order with other shares and price
abbrev pub repriced : Order → ℕ → ℕ → Order
repriced o shares price =
    record { id = o.id; price = price; shares = shares; firm = o.firm; symbol = o.symbol; side = o.side; unsolicited = o.unsolicited }

-- the first fault's number and reason are kept, and every fault is counted
unfoldable pub faulted : Faults → ℕ → ℕ → Faults
faulted f number reason =
    cond (eqb f.count 0)
    (record { number = number; count = 1; reason = reason })
    (record { number = f.number; count = f.count + 1; reason = f.reason })

-- one message more that is counted apart, under the same rule
abbrev pub counted_apart : Unlisted → Unlisted
counted_apart u = record { rule = u.rule; count = u.count + 1 }

-- the tables behind an effect of the message of a number; an order that leaves gives its place to the last one
abbrev pub carried : Tables → ℕ → Message → Effect → Tables
carried t number m Put = with_orders t (t.orders ++ (order_of m ∷ []))
carried t number m (Replace place shares price) =
    with_orders t (set t.orders place (repriced (get_or t.orders place blank) shares price))
carried t number m (Remove place) = with_orders t (without blank place t.orders)
carried t number m (Renew place) = with_insides t (set t.insides place (inside_of m))
carried t number m Enter = with_insides t (t.insides ++ (inside_of m ∷ []))
carried t number m (Record code) = with_code t code
carried t number m Unchanged = t
carried t number m (Fault reason) = with_faults t (faulted t.faults number (reason_number reason))
carried t number m CountApart = with_unlisted t (counted_apart t.unlisted)

-- the effect of a message on the tables, and the tables behind it
abbrev pub effect_in : Tables → List ℕ → Effect
effect_in t s = effect_of (seen_of t (message_in s)) (message_in s)

unfoldable pub apply_of : Tables → ℕ → List ℕ → Tables
apply_of t number s = carried t number (message_in s) (effect_in t s)
