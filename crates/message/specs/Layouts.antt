-- Document 01, "Layouts", and 001's section 2.2: the fields of each message, in order.
-- Assumes nothing.
use Rattle.std.specs.Prelude.{List, [], ◌∷◌, ℕ}
use Rattle.wire.specs.Choice.{listed_at}
use Rattle.wire.specs.Layout.{Field, number, text, decode, number_in}

-- MessageSize and MessageType: the message header
abbrev pub head : List Field
head = number 2 ∷ number 1 ∷ []

abbrev pub size_in : List ℕ → ℕ
size_in s = number_in (decode head 0 s) 0

abbrev pub type_in : List ℕ → ℕ
type_in s = number_in (decode head 0 s) 1

-- symbol, last update, action, asset class, security id, flags, tier, reporting status, security status
abbrev pub security : List Field
security = text 14 ∷ number 8 ∷ number 1 ∷ number 1 ∷ number 4 ∷ number 2 ∷ number 1 ∷ number 1 ∷ number 1 ∷ []

-- spin type, start time, last number
abbrev pub spin_start : List Field
spin_start = number 1 ∷ number 8 ∷ number 4 ∷ []

-- spin type, messages, end time, last number
abbrev pub spin_end : List Field
spin_end = number 1 ∷ number 4 ∷ number 8 ∷ number 4 ∷ []

-- time, session
abbrev pub trading_session : List Field
trading_session = number 8 ∷ number 1 ∷ []

-- time, id, side, quantity, symbol, price, firm, unsolicited, flags
abbrev pub add : List Field
add = number 4 ∷ text 14 ∷ number 1 ∷ number 4 ∷ text 14 ∷ number 8 ∷ text 4 ∷ number 1 ∷ number 2 ∷ []

-- time, id, quantity, price, flags
abbrev pub update : List Field
update = number 4 ∷ text 14 ∷ number 4 ∷ number 8 ∷ number 2 ∷ []

-- time, id
abbrev pub delete : List Field
delete = number 4 ∷ text 14 ∷ []

-- time, id, executed, remaining, execution id
abbrev pub execution : List Field
execution = number 4 ∷ text 14 ∷ number 4 ∷ number 4 ∷ number 8 ∷ []

-- as an execution, then its own price
abbrev pub priced : List Field
priced = number 4 ∷ text 14 ∷ number 4 ∷ number 4 ∷ number 8 ∷ number 8 ∷ []

-- time, symbol, ask, ask volume, bid, bid volume, unsolicited
abbrev pub top : List Field
top = number 4 ∷ text 14 ∷ number 8 ∷ number 4 ∷ number 8 ∷ number 4 ∷ number 1 ∷ []

-- time, side, quantity, symbol, price, execution id, reserved
abbrev pub trade : List Field
trade = number 4 ∷ number 1 ∷ number 4 ∷ text 14 ∷ number 8 ∷ number 8 ∷ number 8 ∷ []

-- what an Order Add and a Trade have alike: side, quantity, symbol, price
abbrev pub deal : List Field
deal = number 1 ∷ number 4 ∷ text 14 ∷ number 8 ∷ []

-- one side of a Top of Book: price, volume
abbrev pub quote : List Field
quote = number 8 ∷ number 4 ∷ []

abbrev pub layouts : List (ℕ × List Field)
layouts =
    (9, security) ∷ (11, spin_start) ∷ (12, spin_end) ∷ (20, trading_session) ∷ (21, add) ∷ (22, update) ∷ (23, delete) ∷ (24, execution) ∷ (25, priced) ∷ (26, top) ∷ (27, trade) ∷ []

-- the layout of a type that is opened; 28 and unlisted types have no fields here
unfoldable pub layout_of : ℕ → List Field
layout_of type = listed_at type layouts []
