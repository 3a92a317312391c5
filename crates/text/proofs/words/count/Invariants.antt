-- `text::words::count` meets its contract: the words behind those counted give the count.
-- Assumes nothing.
use Rattle.std.proofs.Common.{◌≡◌, length, drop}
use Rattle.text.specs.Words.{count_from, count_of}
use Rattle.text.proofs.Split.{parts}
use Rattle.text.proofs.words.count.Given as goal

abbrev pub invariant-loop-word : goal.invariant-loop-word
invariant-loop-word l = (l.words ≡ length l.yielded) × (count_from l.words (drop l.words (parts l.line)) ≡ count_of l.line)
