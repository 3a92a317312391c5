-- The refusals and their numbers.
use Rattle.std.specs.Prelude.{◌≡◌, ℕ, ◌-◌, ◌<◌, ◌⊎◌, List, [], ◌∷◌, get_or, cond, eqb, Result, Ok, Err, MatchResult, Option, Some, None}
use Rattle.refusals.specs.declared.Refusal.{Refusal}
use Rattle.refusals.specs.declared.Refusal.TheVariants.{TooShort, TooLong, WrongSize, ReservedFlag, BadHeartbeat, NoMessages, BadMessage, PastLastNumber, TooFarAhead, Differs, NoRoom, BadQuestion, NotThere, RuleBroken}
use Rattle.refusals.specs.declared.NoRefusal.{NoRefusal}

-- the number of each
abbrev pub number_of : Refusal → ℕ
-- under 12 bytes lent
number_of TooShort = 1
-- over 1,472 bytes lent
number_of TooLong = 2
-- PacketSize is not the length lent
number_of WrongSize = 3
-- a reserved flag bit is set
number_of ReservedFlag = 4
-- a heartbeat with messages, or of another size than 12
number_of BadHeartbeat = 5
-- no heartbeat, and no message
number_of NoMessages = 6
-- a message of a wrong size, past the packet or shorter than its type needs, or bytes behind the last one
number_of BadMessage = 7
-- the last number is above 4,294,967,295
number_of PastLastNumber = 8
-- the last number is at or above next + 256
number_of TooFarAhead = 9
-- a message differs from the copy that waits under its number
number_of Differs = 10
-- what is to be written does not fit in the buffer
number_of NoRoom = 11
-- an id, a symbol or a side that breaks its rule
number_of BadQuestion = 12
-- no such order is live, or no such inside held
number_of NotThere = 13
-- a field rule is broken, or a type or a header is not written
number_of RuleBroken = 14

-- the result is the refusal of this number, or an error with a number that none has
abbrev pub Decodes : ℕ → Result Refusal NoRefusal → Type 0
Decodes number r = MatchResult r (λ refusal. number_of refusal ≡ number) (λ e. (e.0 ≡ number) × ((number < 1) ⊎ (14 < number)))

-- the refusals from number 1 on
abbrev pub in_order : List Refusal
in_order =
    TooShort
    ∷ TooLong
    ∷ WrongSize
    ∷ ReservedFlag
    ∷ BadHeartbeat
    ∷ NoMessages
    ∷ BadMessage
    ∷ PastLastNumber
    ∷ TooFarAhead
    ∷ Differs
    ∷ NoRoom
    ∷ BadQuestion
    ∷ NotThere
    ∷ RuleBroken
    ∷ []

-- the refusal of a number, which is its place there (the law `by_number`)
unfoldable pub refusal_by : ℕ → Refusal
refusal_by number = get_or in_order (number - 1) RuleBroken

-- what is answered by the number of the test that decides, 0 where none does (the law `answered_err`)
abbrev pub answered : {A : Type 0} → ℕ → A → Result A Refusal
answered refusal a = cond (eqb refusal 0) (Ok a) (Err (refusal_by refusal))

-- the number of the refusal, 0 where there is none
abbrev pub refusal_in : {A : Type 0} → Result A Refusal → ℕ
refusal_in (Ok a) = 0
refusal_in (Err refusal) = number_of refusal

-- the same of a refusal that there may be
abbrev pub refusal_or_none : Option Refusal → ℕ
refusal_or_none None = 0
refusal_or_none (Some refusal) = number_of refusal
