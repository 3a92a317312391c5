-- `message::sizes` hands out the table that document 01 lists: antt computes all entries and compares.
-- Assumes nothing.
use mathlib.Core.Path.{refl}
use Rattle.message.specs.Table.{payload_of, payload_table, tabulate}
use Rattle.message.proofs.table.sizes.Goals as goal

pub invariant_of-result : goal.invariant_of-result
unfolding payload_table tabulate payload_of
invariant_of-result c = record { listed = refl }

pub returns : goal.returns
unfolding payload_table tabulate payload_of
returns c = refl
