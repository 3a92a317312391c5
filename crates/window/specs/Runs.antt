-- Document 01, "Requests": for each longest run of missing numbers, ascending, one request.
-- Assumes nothing.
use Rattle.std.specs.Prelude.{Bool, true, false, not, cond, ◌≡◌, List, [], ◌∷◌, ◌++◌, ℕ, zero, suc, ◌+◌, ◌-◌, ◌*◌, ◌%◌, ◌≤◌, min, eqb, ltb, length, Result, Ok, Err}
use Rattle.window.specs.declared.missing.Gap.{Gap}
use Rattle.window.specs.Window.{size_at}
use Rattle.wire.specs.Layout.{Field, number, Value, number_is, encode}
use Rattle.wire.specs.Number.{splice}
use Rattle.refusals.specs.declared.Refusal.{Refusal}
use Rattle.refusals.specs.declared.Refusal.TheVariants.{NoRoom}

-- a run that ends before k, if it has begun
abbrev pub closed : ℕ → ℕ → List (ℕ × ℕ)
closed k zero = []
closed k (suc count) = (k - suc count, suc count) ∷ []

-- the runs among n numbers from k on, where the run that has begun before k has so many
unfoldable pub runs_from : (ℕ → Bool) → ℕ → ℕ → ℕ → List (ℕ × ℕ)
runs_from missing k zero begun = closed k begun
runs_from missing k (suc n) begun = cond (missing k) (runs_from missing (k + 1) n (begun + 1)) (closed k begun ++ runs_from missing (k + 1) n 0)

-- the runs, each by its start and its count
abbrev pub runs_of : (ℕ → Bool) → ℕ → ℕ → List (ℕ × ℕ)
runs_of missing from n = runs_from missing from n 0

-- the first number from k on that passes a test, or the one behind the n that are looked at
unfoldable pub first_from : (ℕ → Bool) → ℕ → ℕ → ℕ
first_from test k zero = k
first_from test k (suc n) = cond (test k) k (first_from test (k + 1) n)

-- the same up to a limit, as an answer: it lies between where the look begins and the limit
pub record IsFirst (test : ℕ → Bool) (from limit r : ℕ) : Type 0 where
  pub is : r ≡ first_from test from (limit - from)
  pub least : from ≤ r
  pub most : r ≤ limit

-- the first run among n numbers from k on: its start, and its count, 0 where there is none
unfoldable pub run_from : (ℕ → Bool) → ℕ → ℕ → ℕ × ℕ
run_from missing k n =
    let start = first_from missing k n in
    (start, first_from (λ j. not (missing j)) start (k + n - start) - start)

-- a number is missing where its place is free; the same or the opposite of that
abbrev pub missing_in : List ℕ → ℕ → Bool
missing_in window k = eqb (size_at window (k % 256)) 0

abbrev pub missing_is : List ℕ → Bool → ℕ → Bool
missing_is window true k = missing_in window k
missing_is window false k = not (missing_in window k)

-- a run as an answer: it is the first, and lies between a number and a limit
pub record IsRun (missing : ℕ → Bool) (from limit : ℕ) (gap : Gap) : Type 0 where
  pub start : gap.start ≡ (run_from missing from (limit - from)).0
  pub count : gap.count ≡ (run_from missing from (limit - from)).1
  pub least : from ≤ gap.start
  pub most : gap.start + gap.count ≤ limit

-- how many runs there are, as an answer
pub record IsCount (missing : ℕ → Bool) (from limit r : ℕ) : Type 0 where
  pub is : r ≡ length (runs_of missing from (limit - from))
  pub most : r ≤ limit - from

-- a request: size, type r, start, count, Y
abbrev pub layout : List Field
layout = number 2 ∷ number 1 ∷ number 4 ∷ number 4 ∷ number 1 ∷ []

abbrev pub request_row : ℕ → ℕ → List Value
request_row start count = number_is 12 ∷ number_is 0x72 ∷ number_is start ∷ number_is count ∷ number_is 0x59 ∷ []

-- one request for each run, one behind the other
unfoldable pub requests_of : List (ℕ × ℕ) → List ℕ
requests_of [] = []
requests_of (run ∷ runs) = encode layout (request_row run.0 run.1) ++ requests_of runs

-- the missing numbers are from next, below both end and next + 256
abbrev pub limit_of : ℕ → ℕ → ℕ
limit_of next end = min end (next + 256)

abbrev pub gaps_of : List ℕ → ℕ → ℕ → List (ℕ × ℕ)
gaps_of window next end = runs_of (missing_in window) next (limit_of next end - next)

-- what writing all requests asks: the numbers have 4 bytes, and the buffer has room
pub record Room (window : List ℕ) (from limit n : ℕ) : Type 0 where
  pub order : from ≤ limit
  pub top : limit ≤ 4294967296
  pub near : limit ≤ from + 256
  pub room : 12 * length (runs_of (missing_in window) from (limit - from)) ≤ n

-- no room exactly if the buffer is too short for all, nothing written; else how many were written
unfoldable pub asked_of : List (ℕ × ℕ) → ℕ → Result ℕ Refusal
asked_of runs n = cond (ltb n (12 * length runs)) (Err NoRoom) (Ok (length runs))

abbrev pub buffer_by : Result ℕ Refusal → List (ℕ × ℕ) → List ℕ → List ℕ
buffer_by (Ok n) runs buf = splice buf 0 (requests_of runs)
buffer_by (Err refusal) runs buf = buf

unfoldable pub buffer_after : List (ℕ × ℕ) → List ℕ → List ℕ
buffer_after runs buf = buffer_by (asked_of runs (length buf)) runs buf
