-- Document 01, "Asking and writing": what is missing, and the requests for it; document 02, T-06: the lowest number not carried.
-- Assumes nothing.
use Rattle.std.specs.Prelude.{Bool, true, false, List, ℕ, ◌-◌, max, min}
use Rattle.std.proofs.Math.Option.{Option, none, some}
use Rattle.window.specs.Runs.{limit_of, run_from, runs_of}
use Rattle.window.specs.declared.missing.Gap.{Gap}
use Rattle.merge.specs.State.{State}
use Rattle.window_taking.specs.Keeping.{state_of}
use Rattle.window_taking.specs.Taking.{lowest_of}
use Rattle.session.specs.Meaning.{end_in, next_in}

-- the lowest number not carried
abbrev pub lowest_number : {T : Type 0} → State (List ℕ) T → ℕ
lowest_number x = lowest_of x

abbrev pub lacks : Option (List ℕ) → Bool
lacks none = true
lacks (some m) = false

-- a number is missing where nothing waits under it; the tables do not count
abbrev pub missing : {T : Type 0} → State (List ℕ) T → ℕ → Bool
missing x k = lacks (x.waiting k)

-- the missing numbers lie from next on, below both end and next + 256
abbrev pub limit : {T : Type 0} → State (List ℕ) T → ℕ
limit x = limit_of x.next x.end

-- the longest runs of them, ascending, each by its start and its count
unfoldable pub gaps_of : {T : Type 0} → State (List ℕ) T → List (ℕ × ℕ)
gaps_of x = runs_of (missing x) x.next (limit x - x.next)

-- the first run from a number on; its count is 0 where there is none
abbrev pub placed : {T : Type 0} → State (List ℕ) T → ℕ → ℕ
placed x from = min (max from x.next) (limit x)

unfoldable pub gap_from : {T : Type 0} → State (List ℕ) T → ℕ → Gap
gap_from x from =
    let run = run_from (missing x) (placed x from) (limit x - placed x from) in
    record { start = run.0; count = run.1 }

-- by what a host lends to ask for them: next and end in the room, and the window
abbrev pub line_in : List ℕ → List ℕ → State (List ℕ) (Unit {0})
line_in room window = state_of window (next_in room) (end_in room)
