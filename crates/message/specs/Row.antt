-- A message and its row: the values of its fields, in the order of its layout. The row gives document 01's type and
-- values for each case of the message.
-- Assumes nothing.
use Rattle.std.specs.Prelude.{List, [], ◌∷◌, ℕ, drop, replicate}
use Rattle.wire.specs.Choice.{listed_at}
use Rattle.wire.specs.Layout.{Field, Value, number_is, text_is, number_in, text_in, decode, width_of}
use Rattle.message.specs.Layouts.{head, layout_of}
use Rattle.message.specs.declared.kinds.Body.{Body}
use Rattle.message.specs.declared.kinds.Body.TheVariants.{Security, SpinStart, SpinEnd, TradingSession, Add, Update, Delete, Execution, Top, Trade, Other}
use Rattle.message.specs.declared.kinds.Message.{Message}
use Rattle.message.specs.declared.kinds.Terms.{Terms}
use Rattle.message.specs.declared.kinds.Terms.TheVariants.{Published, Own}
use Rattle.message.specs.declared.layouts.Named.{Named}
use Rattle.message.specs.declared.layouts.Deal.{Deal}
use Rattle.message.specs.declared.layouts.Quote.{Quote}
use Rattle.message.specs.declared.layouts.SecurityFields.{SecurityFields}
use Rattle.message.specs.declared.layouts.SpinStartFields.{SpinStartFields}
use Rattle.message.specs.declared.layouts.SpinEndFields.{SpinEndFields}
use Rattle.message.specs.declared.layouts.TradingSessionFields.{TradingSessionFields}
use Rattle.message.specs.declared.layouts.AddFields.{AddFields}
use Rattle.message.specs.declared.layouts.UpdateFields.{UpdateFields}
use Rattle.message.specs.declared.layouts.ExecutionFields.{ExecutionFields}
use Rattle.message.specs.declared.layouts.PricedFields.{PricedFields}
use Rattle.message.specs.declared.layouts.TopFields.{TopFields}
use Rattle.message.specs.declared.layouts.TradeFields.{TradeFields}

-- an array that a kind has not is all zero
abbrev pub no_text : List ℕ
no_text = replicate 14 0

abbrev pub no_firm : List ℕ
no_firm = replicate 4 0

-- a message of numbers alone; with an id; with a symbol
abbrev pub bare : Body → Message
bare body = record { id = no_text; symbol = no_text; firm = no_firm; body = body }

abbrev pub named : List ℕ → Body → Message
named id body = record { id = id; symbol = no_text; firm = no_firm; body = body }

abbrev pub about : List ℕ → Body → Message
about symbol body = record { id = no_text; symbol = symbol; firm = no_firm; body = body }

-- ---- the fields of a type from its row, in the order of its layout

abbrev pub named_in : List Value → Named
named_in row = record { time = number_in row 0; id = text_in row 1 }

abbrev pub deal_in : List Value → Deal
deal_in row = record { side = number_in row 0; quantity = number_in row 1; symbol = text_in row 2; price = number_in row 3 }

abbrev pub quote_in : List Value → Quote
quote_in row = record { price = number_in row 0; volume = number_in row 1 }

abbrev pub security_in : List Value → SecurityFields
security_in row =
    let n = number_in row in
    let t = text_in row in
    record { symbol = t 0; updated = n 1; action = n 2; class = n 3; security = n 4; flags = n 5; tier = n 6; reporting = n 7; status = n 8 }

abbrev pub spin_start_in : List Value → SpinStartFields
spin_start_in row =
    let n = number_in row in
    record { spin = n 0; time = n 1; last = n 2 }

abbrev pub spin_end_in : List Value → SpinEndFields
spin_end_in row =
    let n = number_in row in
    record { spin = n 0; count = n 1; time = n 2; last = n 3 }

abbrev pub trading_session_in : List Value → TradingSessionFields
trading_session_in row =
    let n = number_in row in
    record { time = n 0; session = n 1 }

abbrev pub add_in : List Value → AddFields
add_in row =
    let n = number_in row in
    record { named = named_in row; deal = deal_in (drop 2 row); firm = text_in row 6; unsolicited = n 7; flags = n 8 }

abbrev pub update_in : List Value → UpdateFields
update_in row =
    let n = number_in row in
    record { named = named_in row; quantity = n 2; price = n 3; flags = n 4 }

abbrev pub execution_in : List Value → ExecutionFields
execution_in row =
    let n = number_in row in
    record { named = named_in row; executed = n 2; remaining = n 3; execution = n 4 }

abbrev pub priced_in : List Value → PricedFields
priced_in row = record { execution = execution_in row; price = number_in row 5 }

abbrev pub top_in : List Value → TopFields
top_in row = record { time = number_in row 0; symbol = text_in row 1; ask = quote_in (drop 2 row); bid = quote_in (drop 4 row); unsolicited = number_in row 6 }

abbrev pub trade_in : List Value → TradeFields
trade_in row =
    let n = number_in row in
    record { time = n 0; deal = deal_in (drop 1 row); execution = n 5; reserved = n 6 }

-- ---- the message that has them

abbrev pub of_security : SecurityFields → Message
of_security f = about f.symbol (Security f.updated f.action f.class f.security f.flags f.tier f.reporting f.status)

abbrev pub of_spin_start : SpinStartFields → Message
of_spin_start f = bare (SpinStart f.spin f.time f.last)

abbrev pub of_spin_end : SpinEndFields → Message
of_spin_end f = bare (SpinEnd f.spin f.count f.time f.last)

abbrev pub of_trading_session : TradingSessionFields → Message
of_trading_session f = bare (TradingSession f.time f.session)

abbrev pub of_add : AddFields → Message
of_add f =
    let d = f.deal in
    record { id = f.named.id; symbol = d.symbol; firm = f.firm; body = Add f.named.time d.side d.quantity d.price f.unsolicited f.flags }

abbrev pub of_update : UpdateFields → Message
of_update f = named f.named.id (Update f.named.time f.quantity f.price f.flags)

abbrev pub of_delete : Named → Message
of_delete f = named f.id (Delete f.time)

abbrev pub executed_at : Terms → ExecutionFields → Message
executed_at terms f = named f.named.id (Execution f.named.time f.executed f.remaining f.execution terms)

abbrev pub of_execution : ExecutionFields → Message
of_execution f = executed_at Published f

abbrev pub of_priced : PricedFields → Message
of_priced f = executed_at (Own f.price) f.execution

abbrev pub of_top : TopFields → Message
of_top f = about f.symbol (Top f.time f.ask.price f.ask.volume f.bid.price f.bid.volume f.unsolicited)

abbrev pub of_trade : TradeFields → Message
of_trade f =
    let d = f.deal in
    about d.symbol (Trade f.time d.side d.quantity d.price f.execution f.reserved)

-- the message of a type, from its row; for 28 and unlisted types the type alone
unfoldable pub message_of : ℕ → List Value → Message
message_of type row =
    listed_at type
    ((9, of_security (security_in row))
    ∷ (11, of_spin_start (spin_start_in row))
    ∷ (12, of_spin_end (spin_end_in row))
    ∷ (20, of_trading_session (trading_session_in row))
    ∷ (21, of_add (add_in row))
    ∷ (22, of_update (update_in row))
    ∷ (23, of_delete (named_in row))
    ∷ (24, of_execution (execution_in row))
    ∷ (25, of_priced (priced_in row))
    ∷ (26, of_top (top_in row))
    ∷ (27, of_trade (trade_in row))
    ∷ [])
    (bare (Other type))

-- document 01's type of a message
abbrev pub type_of_terms : Terms → ℕ
type_of_terms Published = 24
type_of_terms (Own price) = 25

abbrev pub type_of_body : Body → ℕ
type_of_body (Security updated action class security flags tier reporting status) = 9
type_of_body (SpinStart spin time last) = 11
type_of_body (SpinEnd spin count time last) = 12
type_of_body (TradingSession time session) = 20
type_of_body (Add time side quantity price unsolicited flags) = 21
type_of_body (Update time quantity price flags) = 22
type_of_body (Delete time) = 23
type_of_body (Execution time executed remaining execution terms) = type_of_terms terms
type_of_body (Top time ask askvolume bid bidvolume unsolicited) = 26
type_of_body (Trade time side quantity price execution reserved) = 27
type_of_body (Other type) = type

abbrev pub type_of : Message → ℕ
type_of m = type_of_body m.body

-- document 01's values of a message, in the order of its layout
abbrev pub price_of : Terms → List Value
price_of Published = []
price_of (Own price) = number_is price ∷ []

abbrev pub row_with : List ℕ → List ℕ → List ℕ → Body → List Value
row_with id symbol firm (Security updated action class security flags tier reporting status) =
    text_is symbol ∷ number_is updated ∷ number_is action ∷ number_is class ∷ number_is security ∷ number_is flags ∷ number_is tier ∷ number_is reporting ∷ number_is status ∷ []
row_with id symbol firm (SpinStart spin time last) = number_is spin ∷ number_is time ∷ number_is last ∷ []
row_with id symbol firm (SpinEnd spin count time last) = number_is spin ∷ number_is count ∷ number_is time ∷ number_is last ∷ []
row_with id symbol firm (TradingSession time session) = number_is time ∷ number_is session ∷ []
row_with id symbol firm (Add time side quantity price unsolicited flags) =
    number_is time ∷ text_is id ∷ number_is side ∷ number_is quantity ∷ text_is symbol ∷ number_is price ∷ text_is firm ∷ number_is unsolicited ∷ number_is flags ∷ []
row_with id symbol firm (Update time quantity price flags) = number_is time ∷ text_is id ∷ number_is quantity ∷ number_is price ∷ number_is flags ∷ []
row_with id symbol firm (Delete time) = number_is time ∷ text_is id ∷ []
row_with id symbol firm (Execution time executed remaining execution terms) =
    number_is time ∷ text_is id ∷ number_is executed ∷ number_is remaining ∷ number_is execution ∷ price_of terms
row_with id symbol firm (Top time ask askvolume bid bidvolume unsolicited) =
    number_is time ∷ text_is symbol ∷ number_is ask ∷ number_is askvolume ∷ number_is bid ∷ number_is bidvolume ∷ number_is unsolicited ∷ []
row_with id symbol firm (Trade time side quantity price execution reserved) =
    number_is time ∷ number_is side ∷ number_is quantity ∷ text_is symbol ∷ number_is price ∷ number_is execution ∷ number_is reserved ∷ []
row_with id symbol firm (Other type) = []

abbrev pub row_of : Message → List Value
row_of m = row_with m.id m.symbol m.firm m.body

-- the row of a layout that stands in a message's bytes, behind the 3 header bytes
abbrev pub row_in : List Field → List ℕ → List Value
row_in layout s = decode layout (width_of head) s

-- the message of a type that stands in bytes
unfoldable pub fields_of : ℕ → List ℕ → Message
fields_of type s = message_of type (row_in (layout_of type) s)
