-- Document 01, "Worked by hand", and the two rules of an opening: each example with what is to hold, as a test.
-- Assumes nothing.
use Rattle.std.specs.Prelude.{Bool, true, false, ◌&&◌, List, [], ◌∷◌, ◌++◌, ℕ, ◌+◌, eqb, length, replicate, get_or, take, Result, Ok, Err}
use Rattle.std.proofs.Math.Option.{Option, none, some}
use Rattle.refusals.specs.Refusals.{number_of}
use Rattle.refusals.specs.declared.Refusal.{Refusal}
use Rattle.wire.specs.Layout.{Value, number_is, text_is, encode}
use Rattle.fields.specs.Id.{id_answer}
use Rattle.message.specs.Layouts as layouts
use Rattle.message.specs.Reading.{read_of}
use Rattle.message.specs.declared.kinds.Message.{Message}
use Rattle.packet.specs.Header as header
use Rattle.merge.specs.State.{opened, take_all}
use Rattle.window.specs.Runs.{requests_of}
use Rattle.book.specs.Applying.{apply_of}
use Rattle.book.specs.Tables.{Tables, blank, fresh}
use Rattle.book.specs.declared.tables.OpeningRule.{OpeningRule}
use Rattle.book.specs.declared.tables.OpeningRule.TheVariants.{Default, Strict}
use Rattle.session.specs.Meaning.{Meaning, overnight}
use Rattle.session.specs.Bursts.{refusal_of}
use Rattle.session.specs.Asking.{gaps_of}

-- ---- comparing an answer with what it is to be

abbrev pub same : List ℕ → List ℕ → Bool
same [] [] = true
same [] (y ∷ ys) = false
same (x ∷ xs) [] = false
same (x ∷ xs) (y ∷ ys) = eqb x y && same xs ys

abbrev pub has_value : Result ℕ Refusal → ℕ → Bool
has_value (Ok n) m = eqb n m
has_value (Err refusal) m = false

abbrev pub is_refused_id : Result ℕ Refusal → Bool
is_refused_id (Ok n) = false
is_refused_id (Err refusal) = eqb (number_of refusal) 12

abbrev pub accepts : Result Message Refusal → Bool
accepts (Ok message) = true
accepts (Err refusal) = false

abbrev pub refuses : Result Message Refusal → ℕ → Bool
refuses (Ok message) number = false
refuses (Err refusal) number = eqb (number_of refusal) number

abbrev pub waits : Option (List ℕ) → Bool
waits none = false
waits (some message) = true

-- ---- ids: 7A400CY528L9SN, and the others

abbrev pub published : List ℕ
published = 0x37 ∷ 0x41 ∷ 0x34 ∷ 0x30 ∷ 0x30 ∷ 0x43 ∷ 0x59 ∷ 0x35 ∷ 0x32 ∷ 0x38 ∷ 0x4C ∷ 0x39 ∷ 0x53 ∷ 0x4E ∷ []

-- with an `a` for C, and with an `a` for S
abbrev pub small_early : List ℕ
small_early = 0x37 ∷ 0x41 ∷ 0x34 ∷ 0x30 ∷ 0x30 ∷ 0x61 ∷ 0x59 ∷ 0x35 ∷ 0x32 ∷ 0x38 ∷ 0x4C ∷ 0x39 ∷ 0x53 ∷ 0x4E ∷ []

abbrev pub small_late : List ℕ
small_late = 0x37 ∷ 0x41 ∷ 0x34 ∷ 0x30 ∷ 0x30 ∷ 0x43 ∷ 0x59 ∷ 0x35 ∷ 0x32 ∷ 0x38 ∷ 0x4C ∷ 0x39 ∷ 0x61 ∷ 0x4E ∷ []

abbrev pub thirty_six : List ℕ
thirty_six = replicate 10 0x30 ++ (0x31 ∷ 0x30 ∷ 0x5A ∷ 0x5A ∷ [])

abbrev pub largest : List ℕ
largest = replicate 12 0x5A ++ (0x30 ∷ 0x30 ∷ [])

-- ---- messages

-- an Add of 300 shares at 1,250,000, with a MessageSize, and bytes behind its 55
abbrev pub add : ℕ → List ℕ → List ℕ
add size more =
    encode layouts.head (number_is size ∷ number_is 21 ∷ [])
    ++ encode layouts.add (number_is 0 ∷ text_is published ∷ number_is 0x42 ∷ number_is 300 ∷ text_is (replicate 14 0x41) ∷ number_is 1250000 ∷ text_is (replicate 4 0x41) ∷ number_is 0x4E ∷ number_is 0 ∷ [])
    ++ more

-- the same with its last byte missing, and a MessageSize that says so
abbrev pub add_short : List ℕ
add_short = take 54 (add 54 [])

abbrev pub executed : ℕ → ℕ → List ℕ
executed shares remaining =
    encode layouts.head (number_is 37 ∷ number_is 24 ∷ [])
    ++ encode layouts.execution (number_is 0 ∷ text_is published ∷ number_is shares ∷ number_is remaining ∷ number_is 1 ∷ [])

-- the tables after an Add of 300 and an execution
abbrev pub after : ℕ → ℕ → Tables
after shares remaining = apply_of (apply_of (fresh Default) 1 (add 55 [])) 2 (executed shares remaining)

abbrev pub first_shares : Tables → ℕ
first_shares t = (get_or t.orders 0 blank).shares

-- ---- packets of one message, under a number

abbrev pub carrying : ℕ → List ℕ → List ℕ
carrying number message = encode header.layout (number_is (12 + length message) ∷ number_is number ∷ number_is 0 ∷ number_is 1 ∷ number_is 0 ∷ []) ++ message

-- a message of 3 bytes
abbrev pub single : ℕ → List ℕ
single number = carrying number (0 ∷ 3 ∷ 28 ∷ [])

-- the session opened at s by a rule, behind these packets
abbrev pub opening_by : OpeningRule → ℕ → List (List ℕ) → Meaning
opening_by rule s packets = take_all overnight (opened (fresh rule) s) packets

abbrev pub opening : ℕ → List (List ℕ) → Meaning
opening s packets = opening_by Default s packets

-- the test that refuses a packet in a session opened at s, 0 where none does
abbrev pub decision : ℕ → List ℕ → ℕ
decision s packet = refusal_of (opened (fresh Default) s) packet

-- the tables behind a packet of one message of type 10, which is not listed, in a session opened at 1 by a rule
abbrev pub unlisted : OpeningRule → Tables
unlisted rule = (opening_by rule 1 (carrying 1 (0 ∷ 3 ∷ 10 ∷ []) ∷ [])).tables

abbrev pub requests : Meaning → List ℕ
requests x = requests_of (gaps_of x)

-- ---- the table

abbrev pub examples : List Bool
examples =
    -- P1 to P4
    has_value (id_answer published) 958319779308913917
    ∷ has_value (id_answer thirty_six) 36
    ∷ has_value (id_answer largest) 4738381338321616895
    ∷ is_refused_id (id_answer small_early)
    ∷ has_value (id_answer small_late) 958319779308913917
    -- P5, P6: the message alone, and in a packet
    ∷ refuses (read_of add_short) 7
    ∷ accepts (read_of (add 56 (0 ∷ [])))
    ∷ eqb (decision 1 (carrying 1 add_short)) 7
    ∷ eqb (decision 1 (carrying 1 (add 56 (0 ∷ [])))) 0
    -- P7, P8
    ∷ eqb (decision 1000 (single 1255)) 0
    ∷ waits ((opening 1000 (single 1255 ∷ [])).waiting 1255)
    ∷ eqb (opening 1000 (single 1255 ∷ [])).next 1000
    ∷ eqb (decision 1000 (single 1256)) 9
    -- P9 to P11
    ∷ eqb (after 500 0).faults.reason 6
    ∷ eqb (first_shares (after 500 0)) 300
    ∷ eqb (length (after 300 0).orders) 0
    ∷ eqb (after 300 0).faults.count 0
    ∷ eqb (after 100 199).faults.reason 7
    ∷ eqb (first_shares (after 100 199)) 300
    -- P12
    ∷ same (requests (opening 10 (single 12 ∷ single 13 ∷ []))) (0x00 ∷ 0x0C ∷ 0x72 ∷ 0x00 ∷ 0x00 ∷ 0x00 ∷ 0x0A ∷ 0x00 ∷ 0x00 ∷ 0x00 ∷ 0x02 ∷ 0x59 ∷ [])
    -- an unlisted type by default: no fault, and counted apart
    ∷ eqb (unlisted Default).faults.count 0
    ∷ eqb (unlisted Default).unlisted.count 1
    -- strictly: fault 1, and not counted apart
    ∷ eqb (unlisted Strict).faults.count 1
    ∷ eqb (unlisted Strict).faults.reason 1
    ∷ eqb (unlisted Strict).unlisted.count 0
    ∷ []

-- every one holds
abbrev pub all : List Bool → Bool
all [] = true
all (one ∷ more) = one && all more
