-- Document 01, "Reading one message from exactly its lent bytes".
-- Assumes nothing.
use Rattle.std.specs.Prelude.{not, List, [], ◌∷◌, ℕ, eqb, ltb, length, Result, Ok, Err}
use Rattle.wire.specs.Choice.{first_of}
use Rattle.refusals.specs.declared.Refusal.{Refusal}
use Rattle.refusals.specs.declared.Refusal.TheVariants.{BadMessage, RuleBroken}
use Rattle.message.specs.Layouts.{size_in, type_in}
use Rattle.message.specs.Row.{fields_of}
use Rattle.message.specs.Rules.{good_message}
use Rattle.message.specs.Table.{too_short}
use Rattle.message.specs.declared.kinds.Message.{Message}

-- the first test that applies decides: 7, then 14, else the fields, or for 28 and unlisted types the type alone
unfoldable pub read_of : List ℕ → Result Message Refusal
read_of s =
    first_of
    ((ltb (length s) 3, Err BadMessage)
    ∷ (ltb 128 (length s), Err BadMessage)
    ∷ (not (eqb (size_in s) (length s)), Err BadMessage)
    ∷ (too_short (type_in s) (length s), Err BadMessage)
    ∷ (not (good_message (fields_of (type_in s) s)), Err RuleBroken)
    ∷ [])
    (Ok (fields_of (type_in s) s))
