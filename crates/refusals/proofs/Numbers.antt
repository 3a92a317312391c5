-- A refusal and its number.
use Rattle.std.proofs.Common.{◌≡◌, ◌≤◌, refl, eqb, false, cond, lit≤, Ok, Err, ap, ◌∙◌}
use Rattle.refusals.specs.Refusals.{number_of, refusal_by, answered}
use Rattle.refusals.specs.declared.Refusal.{Refusal}
use Rattle.refusals.specs.declared.Refusal.TheVariants.{TooShort, TooLong, WrongSize, ReservedFlag, BadHeartbeat, NoMessages, BadMessage, PastLastNumber, TooFarAhead, Differs, NoRoom, BadQuestion, NotThere, RuleBroken}

-- a refusal is the one of its number
pub by_number : (r : Refusal) → refusal_by (number_of r) ≡ r
unfolding refusal_by
by_number TooShort = refl
by_number TooLong = refl
by_number WrongSize = refl
by_number ReservedFlag = refl
by_number BadHeartbeat = refl
by_number NoMessages = refl
by_number BadMessage = refl
by_number PastLastNumber = refl
by_number TooFarAhead = refl
by_number Differs = refl
by_number NoRoom = refl
by_number BadQuestion = refl
by_number NotThere = refl
by_number RuleBroken = refl

-- no refusal has number 0
pub some_number : (r : Refusal) → eqb (number_of r) 0 ≡ false
some_number TooShort = refl
some_number TooLong = refl
some_number WrongSize = refl
some_number ReservedFlag = refl
some_number BadHeartbeat = refl
some_number NoMessages = refl
some_number BadMessage = refl
some_number PastLastNumber = refl
some_number TooFarAhead = refl
some_number Differs = refl
some_number NoRoom = refl
some_number BadQuestion = refl
some_number NotThere = refl
some_number RuleBroken = refl

-- 14 is the last
pub most_number : (r : Refusal) → number_of r ≤ 14
most_number TooShort = lit≤ tt
most_number TooLong = lit≤ tt
most_number WrongSize = lit≤ tt
most_number ReservedFlag = lit≤ tt
most_number BadHeartbeat = lit≤ tt
most_number NoMessages = lit≤ tt
most_number BadMessage = lit≤ tt
most_number PastLastNumber = lit≤ tt
most_number TooFarAhead = lit≤ tt
most_number Differs = lit≤ tt
most_number NoRoom = lit≤ tt
most_number BadQuestion = lit≤ tt
most_number NotThere = lit≤ tt
most_number RuleBroken = lit≤ tt

-- the answer of a refusal's number
pub answered_err : {A : Type 0} (a : A) (r : Refusal) → answered (number_of r) a ≡ Err r
answered_err a r =
    ap (λ b. cond b (Ok a) (Err (refusal_by (number_of r)))) (some_number r) ∙ ap Err (by_number r)
