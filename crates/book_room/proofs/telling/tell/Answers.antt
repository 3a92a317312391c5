-- A message that touches no order is decided by its symbol's look-up and the count of insides: an inside is renewed or comes, a code
-- is recorded, a type that is not in the table is counted apart, or it is a fault.
-- Assumes nothing.
use mathlib.Core.Path.{◌≡◌, ◌∙◌}
use mathlib.Core.List.{List}
use Prim.Native.Nat.{ℕ, ◌<◌}
use native.Mathlib.Omega.{arith}
use lib.ListN.{get_or, set, take}
use Rattle.std.specs.Prelude.{Option}
use Rattle.fields.specs.Id.{number_of}
use Rattle.book.specs.Applying.{Seen, effect_of, message_in, topic_of}
use Rattle.book.specs.Lookup.{symbol_at}
use Rattle.book.specs.Tables.{Book, holding_insides}
use Rattle.book.specs.declared.deciding.Effect.{Effect}
use Rattle.book.specs.declared.deciding.Effect.TheVariants.{Enter}
use Rattle.book.specs.declared.tables.OpeningRule.{OpeningRule}
use Rattle.book.proofs.Steps.{Decided, enter_few, enter_room, renew_room, renew_within}
use Rattle.book_room.specs.Room.{Houses, Lies, rule_by}
use Rattle.book_room.proofs.Decides.{decided_tell, enter_symbol, tell_left}
use Rattle.book_room.proofs.Done.{counts, lies, told_apart, told_enter, told_fault, told_none, told_record, told_renew}
use Rattle.book_room.proofs.Lying.{filled, held_at, long, rule_at}
use Rattle.book_room.proofs.Writes.{code_done, spare}
use Rattle.book_room.proofs.telling.tell.Goals as goal

-- what is decided, by the look-up, the count and the rule
module _ {room : List ℕ} {next end : ℕ} {b : Book} {number : ℕ} {s : List ℕ} (h : Houses room next end b number s)
    {inside : Option ℕ} {rule : OpeningRule} {e : Effect}
    (looked : (next end : ℕ) (b : Book) → Lies room next end b → inside ≡ symbol_at (topic_of (message_in s)) (take b.held b.fronts) (take b.held b.backs))
    (chosen : rule ≡ rule_by (get_or room 8 0))
    (is : (seen : Seen) → seen.inside ≡ inside → seen.held ≡ get_or room 3 0 → seen.rule ≡ rule → e ≡ effect_of seen (message_in s)) where
  decided : Decided b s (number_of (message_in s).id) (topic_of (message_in s)) e
  decided =
      decided_tell s h.ready.kept h.ready.whole
      (looked next end b (lies h)) (held_at (filled (lies h)))
      (chosen ∙ rule_at (filled (lies h))) is

  few : e ≡ Enter → get_or room 3 0 < 64
  few enters = omega (arith, held_at (filled (lies h)), enter_few decided enters)

pub inside_of-made-requires : goal.inside_of-made-requires
inside_of-made-requires c =
    let pre = c.requires.by_index in
    renew_room (decided pre.3 c.told-inside.ensures c.rule_in-rule.ensures c.tell.ensures) c.in-Renew.is

pub write-requires : goal.write-requires
write-requires c =
    let pre = c.requires.by_index in
    let within = renew_within (decided pre.3 c.told-inside.ensures c.rule_in-rule.ensures c.tell.ensures) c.in-Renew.is in
    record { place_bound = omega (arith, within, pre.3.ready.kept.held); by_index = (pre.0, pre.1, pre.2, filled (lies pre.3)) }

pub inside_of-made-requires-in-Enter : goal.inside_of-made-requires-in-Enter
inside_of-made-requires-in-Enter c =
    let pre = c.requires.by_index in
    enter_room (decided pre.3 c.told-inside.ensures c.rule_in-rule.ensures c.tell.ensures) c.in-Enter.is

pub write-requires-in-Enter : goal.write-requires-in-Enter
write-requires-in-Enter c =
    let pre = c.requires.by_index in
    record {
      place_bound = few pre.3 c.told-inside.ensures c.rule_in-rule.ensures c.tell.ensures c.in-Enter.is;
      by_index = (pre.0, pre.1, pre.2, filled (lies pre.3));
    }

pub enter-requires : goal.enter-requires
enter-requires c =
    let pre = c.requires.by_index in
    let b = pre.2 in
    let held = get_or c.args.room.now 3 0 in
    let made = c.inside_of-made-in-Enter.result in
    let fill = filled (lies pre.3) in (
      pre.0,
      pre.1,
      holding_insides b (set b.insides held made) b.fronts b.backs b.held,
      spare fill made (held_at fill) (few pre.3 c.told-inside.ensures c.rule_in-rule.ensures c.tell.ensures c.in-Enter.is) (c.write-in-Enter.ensures pre.0 pre.1 pre.2 fill),
    )

pub bounds-room-4 : goal.bounds-room-4
bounds-room-4 c = omega (arith, long (filled (lies c.requires.by_index.3)))

pub returns-in-Renew : goal.returns-in-Renew
returns-in-Renew c next end b h =
    told_renew next end c.args.number (decided h c.told-inside.ensures c.rule_in-rule.ensures c.tell.ensures)
    c.in-Renew.is c.inside_of-made.ensures
    (c.write.ensures next end b (filled (lies h)))

pub returns-in-Enter : goal.returns-in-Enter
returns-in-Enter c next end b h =
    let d = decided h c.told-inside.ensures c.rule_in-rule.ensures c.tell.ensures in
    let is = c.in-Enter.is in
    let made = c.inside_of-made-in-Enter.ensures in
    let x = c.inside_of-made-in-Enter.result in
    let held = get_or c.args.room.now 3 0 in
    let fill = filled (lies h) in
    told_enter next end c.args.number d is made (enter_symbol d is made) (held_at fill)
    (c.enter.ensures next end (holding_insides b (set b.insides held x) b.fronts b.backs b.held) (spare fill x (held_at fill) (few h c.told-inside.ensures c.rule_in-rule.ensures c.tell.ensures c.in-Enter.is) (c.write-in-Enter.ensures next end b fill)))

pub returns-in-Record : goal.returns-in-Record
returns-in-Record c next end b h =
    told_record next end c.args.number (decided h c.told-inside.ensures c.rule_in-rule.ensures c.tell.ensures)
    c.in-Record.is (code_done (filled (lies h)) c.in-Record.code)

pub returns-in-Fault : goal.returns-in-Fault
returns-in-Fault c next end b h =
    told_fault next end c.args.number (decided h c.told-inside.ensures c.rule_in-rule.ensures c.tell.ensures)
    c.in-Fault.is c.number.ensures (c.mark.ensures next end b (counts h))

pub returns-in-CountApart : goal.returns-in-CountApart
returns-in-CountApart c next end b h =
    told_apart next end c.args.number (decided h c.told-inside.ensures c.rule_in-rule.ensures c.tell.ensures)
    c.in-CountApart.is (c.count_apart.ensures next end b (counts h))

pub returns-in_default : goal.returns-in_default
returns-in_default c next end b h =
    let d = decided h c.told-inside.ensures c.rule_in-rule.ensures c.tell.ensures in
    let number = c.args.number in
    told_none next end number d (tell_left d number c.requires.bytes_value c.in_default.not-Renew c.in_default.not-Enter c.in_default.not-Record c.in_default.not-Fault c.in_default.not-CountApart) h.is

pub bounds-room-3 : goal.bounds-room-3
bounds-room-3 c = omega (arith, long (filled (lies c.requires.by_index.3)))

pub rule_in-rule-requires : goal.rule_in-rule-requires
rule_in-rule-requires c = omega (arith, long (filled (lies c.requires.by_index.3)))
