-- Document 01, "Writing puts one message at a place in a buffer".
-- Assumes nothing.
use Rattle.std.specs.Prelude.{Bool, true, false, not, cond, List, [], ◌∷◌, ◌++◌, ◌≡◌, ℕ, ◌+◌, ltb, length, Result, Ok, Err}
use Rattle.wire.specs.Choice.{first_of}
use Rattle.wire.specs.Layout.{Value, number_is, encode, width_of}
use Rattle.wire.specs.Number.{splice}
use Rattle.message.specs.Layouts.{head, layout_of}
use Rattle.message.specs.Row.{no_firm, no_text, row_of, type_of}
use Rattle.message.specs.Rules.{good_message}
use Rattle.message.specs.Table.{payload_of}
use Rattle.message.specs.declared.kinds.Body.{Body}
use Rattle.message.specs.declared.kinds.Body.TheVariants.{Security, SpinStart, SpinEnd, TradingSession, Add, Update, Delete, Execution, Top, Trade, Other}
use Rattle.message.specs.declared.kinds.Message.{Message}
use Rattle.refusals.specs.declared.Refusal.{Refusal}
use Rattle.refusals.specs.declared.Refusal.TheVariants.{NoRoom, RuleBroken}

-- the types that are written, 9, 11, 12 and 20 to 27, are those whose messages have fields; of 28 and unlisted types
-- there is the type alone
abbrev pub has_fields : List Value → Bool
has_fields [] = false
has_fields (v ∷ vs) = true

abbrev pub is_written : Message → Bool
is_written m = has_fields (row_of m)

-- the type that a message is written with; 0, which is not listed, says that it is not written
unfoldable pub written_type : Message → ℕ
written_type m = cond (is_written m) (type_of m) 0

-- MessageSize of a type's exact size: the header bytes and the payload
unfoldable pub message_size : ℕ → ℕ
message_size type = width_of head + payload_of type

-- the message header
abbrev pub head_row : ℕ → List Value
head_row type = number_is (message_size type) ∷ number_is type ∷ []

-- the bytes of a message: the header, then the fields
unfoldable pub message_bytes : Message → List ℕ
message_bytes m = encode head (head_row (type_of m)) ++ encode (layout_of (type_of m)) (row_of m)

-- what writing answers for n bytes of buffer, the first test that applies deciding: 14, then 11, else the count
unfoldable pub answer_of : Message → ℕ → ℕ → Result ℕ Refusal
answer_of m n at =
    first_of
    ((not (is_written m), Err RuleBroken)
    ∷ (not (good_message m), Err RuleBroken)
    ∷ (ltb n (at + message_size (type_of m)), Err NoRoom)
    ∷ [])
    (Ok (message_size (type_of m)))

abbrev pub write_of : Message → List ℕ → ℕ → Result ℕ Refusal
write_of m buf at = answer_of m (length buf) at

-- the buffer after an answer: a refusal leaves every byte, a count all but the message's own
abbrev pub buffer_by : Result ℕ Refusal → Message → List ℕ → ℕ → List ℕ
buffer_by (Ok n) m buf at = splice buf at (message_bytes m)
buffer_by (Err refusal) m buf at = buf

unfoldable pub buffer_after : Message → List ℕ → ℕ → List ℕ
buffer_after m buf at = buffer_by (write_of m buf at) m buf at

-- a text that the kind has not is all zero: what reading gives, and what the bytes cannot carry
abbrev pub ProperWith : List ℕ → List ℕ → List ℕ → Body → Type 0
ProperWith id symbol firm (Security updated action class security flags tier reporting status) = (id ≡ no_text) × (firm ≡ no_firm)
ProperWith id symbol firm (SpinStart spin time last) = (id ≡ no_text) × (symbol ≡ no_text) × (firm ≡ no_firm)
ProperWith id symbol firm (SpinEnd spin count time last) = (id ≡ no_text) × (symbol ≡ no_text) × (firm ≡ no_firm)
ProperWith id symbol firm (TradingSession time session) = (id ≡ no_text) × (symbol ≡ no_text) × (firm ≡ no_firm)
ProperWith id symbol firm (Add time side quantity price unsolicited flags) = Unit {0}
ProperWith id symbol firm (Update time quantity price flags) = (symbol ≡ no_text) × (firm ≡ no_firm)
ProperWith id symbol firm (Delete time) = (symbol ≡ no_text) × (firm ≡ no_firm)
ProperWith id symbol firm (Execution time executed remaining execution terms) = (symbol ≡ no_text) × (firm ≡ no_firm)
ProperWith id symbol firm (Top time ask askvolume bid bidvolume unsolicited) = (id ≡ no_text) × (firm ≡ no_firm)
ProperWith id symbol firm (Trade time side quantity price execution reserved) = (id ≡ no_text) × (firm ≡ no_firm)
ProperWith id symbol firm (Other type) = (id ≡ no_text) × (symbol ≡ no_text) × (firm ≡ no_firm)

abbrev pub Proper : Message → Type 0
Proper m = ProperWith m.id m.symbol m.firm m.body
