-- The numbers in which an export tells an answer. Where it refuses, what was lent for them stays as it was.
-- Assumes nothing.
use Rattle.std.specs.Prelude.{List, [], ◌∷◌, ℕ, get_or, length, Result}
use Rattle.refusals.specs.declared.Refusal.{Refusal}
use Rattle.wire.specs.Number.{num, part}
use Rattle.window.specs.declared.missing.Gap.{Gap}
use Rattle.book.specs.Lookup.{back_of, front_of}
use Rattle.book.specs.declared.tables.Inside.{Inside}
use Rattle.book.specs.declared.tables.Order.{Order}
use Rattle.single.specs.Told.{told_by}
use Rattle.session.specs.Meaning.{Meaning, code_in, end_in, faults_in, live_in, next_in}

-- ---- of a session: next, end, how many orders are live and insides held, the code, and of the faults the first one's number, their
-- count and the first one's reason

abbrev pub numbers_in : List ℕ → List ℕ
numbers_in room =
    next_in room ∷ end_in room ∷ live_in room ∷ get_or room 3 0 ∷ code_in room ∷ (faults_in room).number ∷ (faults_in room).count ∷ (faults_in room).reason ∷ []

-- the same by what the session means (the law `numbers_mean`)
abbrev pub numbers_of : Meaning → List ℕ
numbers_of x =
    x.next ∷ x.end ∷ length x.tables.orders ∷ length x.tables.insides ∷ x.tables.code ∷ x.tables.faults.number ∷ x.tables.faults.count ∷ x.tables.faults.reason ∷ []

-- ---- of a reply: the record's numbers

-- a firm's four bytes as a number
abbrev pub firm_number : List ℕ → ℕ
firm_number firm = num (part firm 0 4)

abbrev pub order_numbers : Order → List ℕ
order_numbers o =
    o.id ∷ o.price ∷ o.shares ∷ firm_number o.firm ∷ front_of o.symbol ∷ back_of o.symbol ∷ o.side ∷ o.unsolicited ∷ []

abbrev pub order_told : Result Order Refusal → List ℕ → List ℕ
order_told = told_by order_numbers

abbrev pub inside_numbers : Inside → List ℕ
inside_numbers i = i.ask ∷ i.bid ∷ i.time ∷ i.askvolume ∷ i.bidvolume ∷ i.unsolicited ∷ []

abbrev pub inside_told : Result Inside Refusal → List ℕ → List ℕ
inside_told = told_by inside_numbers

-- ---- of a run of missing numbers: its start and count

abbrev pub gap_numbers : Gap → List ℕ
gap_numbers gap = gap.start ∷ gap.count ∷ []
