-- A message that names an order is decided by its look-up and the order's shares and price: the order is replaced or leaves, or it
-- is a fault.
-- Assumes nothing.
use mathlib.Core.Path.{◌≡◌}
use mathlib.Core.List.{List}
use Prim.Native.Nat.{ℕ}
use Rattle.book.specs.Applying.{Seen, effect_of, message_in, topic_of}
use Rattle.book.specs.Tables.{Book}
use Rattle.book.specs.declared.deciding.Effect.{Effect}
use Rattle.book.specs.declared.deciding.Effect.TheVariants.{Remove}
use Rattle.book.proofs.Steps.{Decided, remove_within}
use Rattle.book_room.specs.Arms.{Known}
use Rattle.book_room.specs.Room.{Leaves}
use Rattle.book_room.specs.declared.changing.Name.{Name}
use Rattle.book_room.proofs.Decides.{change_left, decided_change}
use Rattle.book_room.proofs.Done.{changed_fault, changed_none, changed_remove, changed_replace, counts, lies}
use Rattle.book_room.proofs.Lying.{filled}
use Rattle.book_room.proofs.changing.change.Goals as goal

-- what is decided, by the look-up and what the order has
module _ {room : List ℕ} {next end : ℕ} {b : Book} {number : ℕ} {s : List ℕ} {n : Name} {shares price : ℕ} (k : Known room next end b number s n shares price)
    {e : Effect} (is : (seen : Seen) → seen.order ≡ n.order → seen.shares ≡ shares → seen.price ≡ price → e ≡ effect_of seen (message_in s)) where
  decided : Decided b s n.key (topic_of (message_in s)) e
  decided = decided_change s k.houses.ready.kept k.houses.ready.whole k.named k.shares k.price is

  leaves : {place : ℕ} → e ≡ Remove place → Leaves room next end b place
  leaves removes = record { filled = filled (lies k.houses); within = remove_within decided removes }

pub remove-last-requires : goal.remove-last-requires
remove-last-requires c =
    let pre = c.requires.by_index in
    (pre.0, pre.1, pre.2, leaves pre.3 c.change.ensures c.in-Remove.is)

pub returns-in-Replace : goal.returns-in-Replace
returns-in-Replace c next end b k =
    changed_replace next end c.args.number (decided k c.change.ensures)
    c.in-Replace.is k.houses.is

pub returns-in-Remove : goal.returns-in-Remove
returns-in-Remove c next end b k =
    changed_remove next end c.args.number (decided k c.change.ensures)
    c.in-Remove.is
    (c.remove-last.ensures next end b (leaves k c.change.ensures c.in-Remove.is))

pub returns-in-Fault : goal.returns-in-Fault
returns-in-Fault c next end b k =
    changed_fault next end c.args.number (decided k c.change.ensures)
    c.in-Fault.is c.number.ensures (c.mark.ensures next end b (counts k.houses))

pub returns-in_default : goal.returns-in_default
returns-in_default c next end b k =
    let d = decided k c.change.ensures in
    let number = c.args.number in
    changed_none next end number d (change_left d number c.requires.bytes_value c.in_default.not-Replace c.in_default.not-Remove c.in_default.not-Fault) k.houses.is
