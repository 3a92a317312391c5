-- `text::hex::spell` meets its contract: a turn spells one byte more.
-- Assumes nothing.
use mathlib.Core.Path.{◌≡◌}
use lib.ListN.{length, take}
use Rattle.wire.specs.Number.{splice}
use Rattle.text.specs.Hex.{spelt_of}
use Rattle.text.proofs.hex.spell.Given as goal

abbrev pub invariant-loop-k : goal.invariant-loop-k
invariant-loop-k l = (length l.out ≡ length l.initial.out) × (l.out ≡ splice l.initial.out l.at (spelt_of (take l.k l.bytes)))
