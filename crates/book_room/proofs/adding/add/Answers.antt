-- An Add is decided by its key's look-up and the count of live orders; it comes behind the last, or is a fault.
-- Assumes nothing.
use mathlib.Core.Path.{◌≡◌, refl}
use mathlib.Core.List.{List}
use Prim.Native.Nat.{ℕ}
use native.Mathlib.Omega.{arith}
use lib.ListN.{get_or, take}
use Rattle.std.specs.Prelude.{Option}
use Rattle.wire.specs.Number.{part}
use Rattle.fields.specs.Id.{number_of}
use Rattle.book.specs.Applying.{Seen, effect_of, message_in, topic_of}
use Rattle.book.specs.Lookup.{key_at}
use Rattle.book.specs.Tables.{Book}
use Rattle.book.specs.declared.deciding.Effect.{Effect}
use Rattle.book.specs.declared.deciding.Effect.TheVariants.{Fault}
use Rattle.book.specs.declared.deciding.Reason.{Reason}
use Rattle.message.specs.Layouts.{type_in}
use Rattle.message.specs.Row.{fields_of}
use Rattle.book.proofs.Steps.{Decided, put_few}
use Rattle.book.proofs.Types.{add_naming}
use Rattle.book_room.specs.Room.{Free, Houses, Lies}
use Rattle.book_room.proofs.Decides.{decided-add, put_left}
use Rattle.book_room.proofs.Done.{added_fault, added_put, counts, lies}
use Rattle.book_room.proofs.Lying.{filled, live_at, long}
use Rattle.book_room.proofs.adding.add.Goals as goal

-- what is decided, by the look-up and the count
module _ {room : List ℕ} {next end : ℕ} {b : Book} {number : ℕ} {s : List ℕ} (h : Houses room next end b number s)
    {key : ℕ} {order : Option ℕ} {e : Effect} (type : type_in s ≡ 21) (value : key ≡ number_of (part s 7 14))
    (looked : (next end : ℕ) (b : Book) → Lies room next end b → order ≡ key_at key (take b.live b.keys))
    (is : (seen : Seen) → seen.order ≡ order → seen.live ≡ get_or room 2 0 → e ≡ effect_of seen (fields_of 21 s)) where
  decided : Decided b s key (topic_of (message_in s)) e
  decided = decided-add s h.ready.kept type h.ready.whole value (looked next end b (lies h)) (live_at (filled (lies h))) is

  free : ((reason : Reason) → e ≡ Fault reason → ⊥) → Free room next end b (get_or room 2 0)
  free left =
      let at = live_at (filled (lies h)) in
      record { filled = filled (lies h); at = at; few = omega (arith, put_few decided (put_left decided type left)) }

pub key_at-key-requires : goal.key_at-key-requires
key_at-key-requires c =
    let pre = c.requires in
    let s = c.args.bytes.now in
    omega (arith, (add_naming s {key = number_of (part s 7 14)} pre.bytes_value pre.by_index.3.ready.whole refl).room)

pub bounds-room-2 : goal.bounds-room-2
bounds-room-2 c = omega (arith, long (filled (lies c.requires.by_index.3)))

pub add-requires : goal.add-requires
add-requires c =
    let pre = c.requires in
    add_naming c.args.bytes.now pre.bytes_value pre.by_index.3.ready.whole c.key_at-key.ensures

pub enter-requires : goal.enter-requires
enter-requires c =
    let pre = c.requires.by_index in
    (pre.0, pre.1, pre.2, free pre.3 c.requires.bytes_value c.key_at-key.ensures c.found-order.ensures c.add.ensures c.in_default.not-Fault)

pub returns-in-Fault : goal.returns-in-Fault
returns-in-Fault c next end b h =
    added_fault next end c.args.number (decided h c.requires.bytes_value c.key_at-key.ensures c.found-order.ensures c.add.ensures)
    c.in-Fault.is c.number.ensures (c.mark.ensures next end b (counts h))

pub returns-in_default : goal.returns-in_default
returns-in_default c next end b h =
    let d = decided h c.requires.bytes_value c.key_at-key.ensures c.found-order.ensures c.add.ensures in
    let f = free h c.requires.bytes_value c.key_at-key.ensures c.found-order.ensures c.add.ensures c.in_default.not-Fault in
    added_put next end c.args.number d (put_left d c.requires.bytes_value c.in_default.not-Fault) f.at f.few (c.enter.ensures next end b f)
