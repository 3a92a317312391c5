-- The id's value, looked up.
-- Assumes nothing.
use mathlib.Core.Path.{ap, ◌∙◌}
use Prim.Native.Nat.{ℕ}
use lib.ListN.{take}
use Rattle.book.specs.Lookup.{key_at}
use Rattle.book.proofs.Types.{names_id, names_room}
use Rattle.book_room.proofs.changing.named.Goals as goal

pub key_at-key-requires : goal.key_at-key-requires
key_at-key-requires c =
    let pre = c.requires in
    names_room c.args.bytes.now pre.bytes_value pre.whole

pub returns : goal.returns
returns c next end b lies =
    let key = c.key_at-key.ensures ∙ names_id c.args.bytes.now c.requires.bytes_value in
    let order = c.found-order.ensures next end b lies ∙ ap (λ (k : ℕ). key_at k (take b.live b.keys)) key in
    λ i. record { key = key i; order = order i }
