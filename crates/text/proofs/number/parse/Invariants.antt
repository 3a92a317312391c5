-- `text::number::parse` meets its contract: what the rest of the word gives behind the number so far is the answer.
-- Assumes nothing.
use mathlib.Core.Path.{◌≡◌}
use Prim.Native.Nat.{◌≤◌}
use lib.ListN.{drop}
use Rattle.text.specs.Numbers.{number_from, number_of}
use Rattle.text.proofs.number.parse.Given as goal

abbrev pub invariant-loop-c : goal.invariant-loop-c
invariant-loop-c l = (l.value ≤ l.limit) × (number_from l.limit l.value (drop l.c-index l.word) ≡ number_of l.limit l.word)
