-- The messages made for the cases, by their fields.
-- Assumes nothing.
use Rattle.std.specs.Prelude.{List, [], ◌∷◌, ℕ, ◌+◌, ◌/◌, ◌%◌, replicate}
use Rattle.wire.specs.Choice.{listed_at}
use Rattle.message.specs.declared.kinds.Message.{Message}
use Rattle.message.specs.declared.kinds.Body.{Body}
use Rattle.message.specs.declared.kinds.Body.TheVariants.{TradingSession, Add, Update, Delete, Execution, Top, Other}
use Rattle.message.specs.declared.kinds.Terms.TheVariants.{Published}
use Rattle.examples_cases.specs.Lines.{letter_of, value_of}

-- the id of the k-th order: its three decimal digits in front of two zeros
abbrev pub id_of : ℕ → List ℕ
id_of k =
    48 ∷ 48 ∷ 48 ∷ 48 ∷ 48 ∷ 48 ∷ 48 ∷ 48 ∷ 48 ∷ (48 + k / 100 % 10) ∷ (48 + k / 10 % 10) ∷ (48 + k % 10) ∷ 48 ∷ 48 ∷ []

-- `ABCD0`, two letters, and spaces
abbrev pub symbol_of : ℕ → List ℕ
symbol_of k =
    65 ∷ 66 ∷ 67 ∷ 68 ∷ 48 ∷ (65 + k / 10 % 10) ∷ (65 + k % 10) ∷ 32 ∷ 32 ∷ 32 ∷ 32 ∷ 32 ∷ 32 ∷ 32 ∷ []

-- `MSFTF` and spaces
abbrev pub listed : List ℕ
listed = 77 ∷ 83 ∷ 70 ∷ 84 ∷ 70 ∷ 32 ∷ 32 ∷ 32 ∷ 32 ∷ 32 ∷ 32 ∷ 32 ∷ 32 ∷ 32 ∷ []

-- a message on the k-th order, with neither symbol nor firm
abbrev pub named_of : ℕ → Body → Message
named_of k body = record { id = id_of k; symbol = replicate 14 0; firm = replicate 4 0; body = body }

abbrev pub add_of : ℕ → ℕ → ℕ → ℕ → Message
add_of k side quantity price =
    record { id = id_of k; symbol = listed; firm = 65 ∷ 66 ∷ 67 ∷ 68 ∷ []; body = Add 1 side quantity price 78 0 }

abbrev pub update_of : ℕ → ℕ → ℕ → Message
update_of k quantity price = named_of k (Update 1 quantity price 0)

abbrev pub delete_of : ℕ → Message
delete_of k = named_of k (Delete 1)

abbrev pub execution_of : ℕ → ℕ → ℕ → Message
execution_of k executed remaining = named_of k (Execution 1 executed remaining 1 Published)

abbrev pub trading_of : ℕ → Message
trading_of code = named_of 0 (TradingSession 1 code)

abbrev pub no_message : Message
no_message = named_of 0 (Other 0)

abbrev pub top_of : ℕ → ℕ → ℕ → Message
top_of k ask bid =
    record { id = replicate 14 0; symbol = symbol_of k; firm = replicate 4 0; body = Top 1 ask 400 bid 500 78 }

-- by the first letter of a kind: add, update, delete, executed, top, session; any other is not written
unfoldable pub message_by : ℕ → ℕ → ℕ → ℕ → ℕ → Message
message_by kind k side first second =
    listed_at kind
    ((97, add_of k side (first % 4294967296) second)
    ∷ (117, update_of k (first % 4294967296) second)
    ∷ (100, delete_of k)
    ∷ (101, execution_of k (first % 4294967296) (second % 4294967296))
    ∷ (116, top_of k first second)
    ∷ (115, trading_of (k % 256))
    ∷ [])
    no_message

-- the message that five words of a line name: its kind, its order, a side, and two numbers
unfoldable pub told_of : List ℕ → ℕ → Message
told_of line at =
    message_by (letter_of line at) (value_of line (at + 1) % 1000) (letter_of line (at + 2)) (value_of line (at + 3)) (value_of line (at + 4))
