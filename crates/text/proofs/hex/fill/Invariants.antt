-- `text::hex::fill` meets its contract: the bytes so far, and those of the digits behind them, are the word's.
-- Assumes nothing.
use mathlib.Core.Path.{◌≡◌}
use mathlib.Core.List.{◌++◌}
use Prim.Native.Nat.{◌*◌}
use lib.ListN.{length, take, drop}
use Rattle.text.specs.Hex.{is_pairs, bytes_of}
use Rattle.text.proofs.hex.fill.Given as goal

abbrev pub invariant-loop-k : goal.invariant-loop-k
invariant-loop-k l = (length l.out ≡ length l.initial.out) × (is_pairs (drop (l.k * 2) l.word) ≡ is_pairs l.word) × (take l.k l.out ++ bytes_of (drop (l.k * 2) l.word) ≡ bytes_of l.word)
