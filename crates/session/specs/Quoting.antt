-- The best prices of many symbols and sides: each question is answered as `best_asked` answers it.
-- Assumes nothing.
use Rattle.std.specs.Prelude.{cond, List, [], ◌∷◌, ◌++◌, ℕ, zero, suc, ◌*◌, ◌/◌, ltb, length, get_or, Result, Ok, Err}
use Rattle.refusals.specs.Refusals.{number_of}
use Rattle.refusals.specs.declared.Refusal.{Refusal}
use Rattle.wire.specs.Number.{part, splice}
use Rattle.book.specs.Asking.{best_asked}
use Rattle.book.specs.Tables.{Tables}
use Rattle.book.specs.declared.asking.Level.{Level}

-- a question is 15 bytes, a symbol and a side; bytes behind the last whole one are not looked at
abbrev pub count_in : List ℕ → ℕ
count_in asked = length asked / 15

abbrev pub question_at : ℕ → List ℕ → List ℕ
question_at k asked = part asked (15 * k) 15

-- n questions from the k-th on
unfoldable pub questions_from : ℕ → ℕ → List ℕ → List (List ℕ)
questions_from k zero asked = []
questions_from k (suc n) asked = question_at k asked ∷ questions_from (suc k) n asked

abbrev pub questions_in : List ℕ → List (List ℕ)
questions_in asked = questions_from 0 (count_in asked) asked

-- four numbers are a reply: the refusal, 0 where there is none, the price, the sum of shares there and the number of orders
-- beside a refusal the other three are 0
abbrev pub numbers_of : Result Level Refusal → List ℕ
numbers_of (Ok level) = 0 ∷ level.price ∷ level.shares ∷ level.orders ∷ []
numbers_of (Err refusal) = number_of refusal ∷ 0 ∷ 0 ∷ 0 ∷ []

abbrev pub quote_of : Tables → List ℕ → List ℕ
quote_of t question = numbers_of (best_asked t (part question 0 14) (get_or question 14 0))

unfoldable pub quotes_of : Tables → List (List ℕ) → List ℕ
quotes_of t [] = []
quotes_of t (q ∷ qs) = quote_of t q ++ quotes_of t qs

-- 11 exactly if the list is too short for the replies, nothing written; by the lengths of both lists
unfoldable pub quoted_of : ℕ → ℕ → ℕ
quoted_of bytes n = cond (ltb n (4 * (bytes / 15))) 11 0

unfoldable pub quotes_after : Tables → List ℕ → List ℕ → List ℕ
quotes_after t asked replies = cond (ltb (length replies) (4 * count_in asked)) replies (splice replies 0 (quotes_of t (questions_in asked)))
