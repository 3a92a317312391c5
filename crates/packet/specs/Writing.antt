-- Document 01, "or a header in its first 12 bytes": writing a header.
-- Assumes nothing.
use Rattle.std.specs.Prelude.{Bool, not, List, [], ◌∷◌, ℕ, eqb, ltb, length, Result, Ok, Err}
use Rattle.wire.specs.Choice.{first_of}
use Rattle.wire.specs.Layout.{Value, number_is, encode, put_row}
use Rattle.refusals.specs.declared.Refusal.{Refusal}
use Rattle.refusals.specs.declared.Refusal.TheVariants.{NoRoom, RuleBroken}
use Rattle.packet.specs.Header.{decided, flags_of, layout}
use Rattle.packet.specs.declared.header.Header.{Header}

-- the values of a header, in the order of its layout
abbrev pub row_of : Header → List Value
row_of h = number_is h.size ∷ number_is h.seq ∷ number_is h.flag ∷ number_is h.messages ∷ number_is h.milli ∷ []

abbrev pub header_bytes : Header → List ℕ
header_bytes h = encode layout (row_of h)

-- 14 for a size outside 12 to 1,472 or what 4, 5 or 6 forbids; then 11 where n bytes of buffer are too few
abbrev pub tests : Header → ℕ → List (Bool × Result ℕ Refusal)
tests h n =
    (ltb h.size 12, Err RuleBroken)
    ∷ (ltb 1472 h.size, Err RuleBroken)
    ∷ (not (eqb (decided (flags_of h)).0 0), Err RuleBroken)
    ∷ (ltb n 12, Err NoRoom)
    ∷ []

-- the first test that applies decides; else the count of bytes written
unfoldable pub answer_of : Header → ℕ → Result ℕ Refusal
answer_of h n = first_of (tests h n) (Ok 12)

-- the buffer after an answer: a refusal leaves every byte, a count all but the first 12
abbrev pub buffer_by : Result ℕ Refusal → Header → List ℕ → List ℕ
buffer_by (Ok n) h buf = put_row layout (row_of h) buf 0
buffer_by (Err refusal) h buf = buf

unfoldable pub buffer_after : Header → List ℕ → List ℕ
buffer_after h buf = buffer_by (answer_of h (length buf)) h buf
