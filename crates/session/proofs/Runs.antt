-- The engine: a packet admitted, a message applied, a packet answered, each as one step of the definition.
-- Assumes nothing.
use mathlib.Core.Path.{◌≡◌, refl, ap, ap₂, ◌∙◌, sym, subst}
use mathlib.Core.Bool.{Bool, true, false, cond, ◌&&◌}
use mathlib.Core.List.{List, [], ◌∷◌, ◌++◌}
use mathlib.Core.Logic.{by_cases}
use mathlib.Core.Option.{Option, none, some, none-ne-some}
use Prim.Native.Nat.{ℕ, zero, suc, ◌+◌, ◌-◌, ◌*◌, ◌%◌, ◌≤◌, ◌<◌, min}
use native.Mathlib.Decide.{dec_lt, ℕ_discrete}
use native.Mathlib.Nat.{mod-lt}
use native.Mathlib.Omega.{arith}
use borrow.Author.Tests.{eq-eqb, eqb-false, ne_eqb}
use lib.Dec.{eqb}
use lib.ListN.{length, take, set}
use lib.Seq.{length-take-le}
use Rattle.std.specs.Prelude.{Result, Ok, Err, Option as Maybe, Some, None}
use Rattle.refusals.specs.Refusals.{refusal_or_none}
use Rattle.refusals.specs.declared.Refusal.{Refusal}
use Rattle.refusals.proofs.Numbers.{some_number}
use Rattle.wire.specs.Number.{Bytes, part, splice}
use Rattle.wire.proofs.Place.{length-splice, part_bytes, splice_next, splice-none}
use Rattle.merge.specs.State as merge
use Rattle.merge.specs.State.{Packet, apply_up_to, freed_at, keep, kept_at, kept_if, step, take_all, take_if, take_one}
use Rattle.merge.specs.Places.{InPlaces, number_at}
use Rattle.merge.proofs.Lowest.{Settles, apply_enough, reach_settles, stuck}
use Rattle.merge.proofs.Places.{held_place, step_put}
use Rattle.merge.proofs.Window.{nothing_waits, waits_where}
use Rattle.packet.specs.Header.{decided}
use Rattle.window.specs.Window.{size_at, start_of, waits_at, zeros}
use Rattle.window.proofs.Held.{clear_window, with, with_other, with_same}
use Rattle.wire.proofs.Parts.{part_front, part_long}
use Rattle.message.specs.Layouts.{type_in}
use Rattle.message.specs.Row.{fields_of}
use Rattle.message.specs.Whole.{Whole}
use Rattle.book.specs.Applying.{apply_of, order_of}
use Rattle.book.specs.Rule.{Ready}
use Rattle.book.specs.Tables as book
use Rattle.book.specs.Tables.{Book, Tables}
use Rattle.book.specs.declared.tables.Order.{Order}
use Rattle.book_room.specs.Arms.{after, named_in}
use Rattle.book_room.specs.Room.{Houses, parts_of, room_of}
use Rattle.book.proofs.Keeping as keeping
use Rattle.book.proofs.Steps.{found_within}
use Rattle.session_message.specs.AtNext.{Begins, Goes, Lies as InBytes, due_of, due_size, message_at, onward_of, size_in, text_after, window_after}
use Rattle.session_message.specs.declared.PacketRest.{PacketRest}
use Rattle.session_message.proofs.Choices.{freed-packet, freed_window, message_packet, message_window, onward_packet, onward_window, size_packet, size_window, text-packet, text_window}
use Rattle.window_taking.specs.Keeping.{Known, Neat, admitted_of, count_of, held_by, kept_by, starts_at, state_of, straight_in, waiting_of, window_for}
use Rattle.window_taking.specs.Taking.{judge, packet_in, take_tests}
use Rattle.window_taking.specs.Turns.{Closes, Follows, Lies, answer_if, at_start, behind, closing, direct_by, done_in, end_by, end_from, frame_at, from_by, length_at, packet_at, packets_from, place_after, place_if, refused_by, turn_of}
use Rattle.window_taking.specs.declared.admitting.Admitted.{Admitted}
use Rattle.window_taking.specs.declared.burst.Turn.{Turn}
use Rattle.window_taking.specs.Ahead.{Ahead, freed}
use Rattle.window_taking.proofs.Accepted.{judged, overnight-judged}
use Rattle.window_taking.proofs.Ahead.{ahead_of, level_of, starts_of}
use Rattle.window_taking.proofs.Answered.{direct_told, end_told, refused_told}
use Rattle.window_taking.proofs.Following.{Another, Ended, another, ended}
use Rattle.window_taking.proofs.Windows.{fine, in_places, place_free, place_used, placed, same_window, waiting_for, waits_place, window_size}
use Rattle.session.specs.Meaning.{Held, Meaning, end_in, feed, held, next_in, overnight, rep, Ruled}
use Rattle.session.specs.Bursts.{Runs, refusal_of, row_with, rows_of}
use Rattle.session.specs.Engine.{Going, Good, NamedAt, Open, Over, PutAt, Task, Touched, Waits, at_hand_of, between_of, finish, hand_of, rest_of, rows_from, task_of, turns_left}
use Rattle.session.specs.declared.touching.Touch.{Touch}
use Rattle.session.proofs.States.{Stands, good_kept, good_step, kept, meaning, neat, ready, stands, waits-below, within}

-- ---- a packet, on the window alone and on the whole session

abbrev pub bare : Meaning → merge.State (List ℕ) (Unit {0})
bare x = record { next = x.next; end = x.end; waiting = x.waiting; tables = tt }

pub bare-judge : (x : Meaning) (p : List ℕ) → judge (bare x) p ≡ judge x p
unfolding judge take_tests
bare-judge x p = refl

bare_refusal : (x : Meaning) (p : List ℕ) → (decided (take_tests (bare x) p)).0 ≡ refusal_of x p
unfolding take_tests
bare_refusal x p = refl

pub bare_if : (x : Meaning) (o : Option (Packet (List ℕ))) → ((kept_if (bare x) o).waiting ≡ (kept_if x o).waiting) × ((kept_if (bare x) o).end ≡ (kept_if x o).end)
unfolding kept_if keep kept_at
bare_if x none = (refl, refl)
bare_if x (some p) = (refl, refl)

pub kept_next : (x : Meaning) (o : Option (Packet (List ℕ))) → ((kept_if x o).next ≡ x.next) × ((kept_if x o).tables ≡ x.tables)
unfolding kept_if keep
kept_next x none = (refl, refl)
kept_next x (some p) = (refl, refl)

bare_straight : (x : Meaning) (p : List ℕ) → straight_in (bare x) p ≡ straight_in x p
unfolding straight_in
bare_straight x p = ap (λ (o : Option (Packet (List ℕ))). eqb x.end x.next && starts_at x.next o) (bare-judge x p)

bare_kept : (x : Meaning) (p : List ℕ) → (kept_by (bare x) p).waiting ≡ (kept_by x p).waiting
bare_kept x p = ap (λ (o : Option (Packet (List ℕ))). (kept_if (bare x) o).waiting) (bare-judge x p) ∙ (bare_if x (judge x p)).0

bare-held : (x : Meaning) (p : List ℕ) → (held_by true (bare x) p).waiting ≡ (held_by true x p).waiting
unfolding held_by
bare-held x p = ap (λ (b : Bool). (cond b (bare x) (kept_by (bare x) p)).waiting) (bare_straight x p) ∙ go (straight_in x p)
  where
    go : (b : Bool) → (cond b (bare x) (kept_by (bare x) p)).waiting ≡ (cond b x (kept_by x p)).waiting
    go true = refl
    go false = bare_kept x p

pub held_by_lem : (x : Meaning) (p : List ℕ) (b : Bool) → straight_in x p ≡ b → held_by true x p ≡ cond b x (kept_by x p)
unfolding held_by
held_by_lem x p b e = ap (λ (c : Bool). cond c x (kept_by x p)) e

module _ (x : Meaning) {w : List ℕ} {next end : ℕ} (g : Good x) (window : w ≡ window_for x.waiting x.next) (at : next ≡ x.next) (ends : end ≡ x.end) (p : List ℕ) where
  pub as_state : state_of w next end ≡ bare x
  as_state =
      let waits : waiting_of w next ≡ x.waiting = ap₂ waiting_of window at ∙ waiting_for (within g) in
      λ i. record { next = at i; end = ends i; waiting = waits i; tables = tt }

  pub state_refusal : refusal_or_none (refused_by (admitted_of true (state_of w next end) p)) ≡ refusal_of x p
  state_refusal = refused_told true (state_of w next end) p ∙ ap (λ (z : merge.State (List ℕ) (Unit {0})). (decided (take_tests z p)).0) as_state ∙ bare_refusal x p

  pub state_end : end_by end (admitted_of true (state_of w next end) p) ≡ (kept_by x p).end
  state_end =
      end_told true (state_of w next end) p
      ∙ ap (λ (z : merge.State (List ℕ) (Unit {0})). (kept_by z p).end) as_state
      ∙ ap (λ (o : Option (Packet (List ℕ))). (kept_if (bare x) o).end) (bare-judge x p)
      ∙ (bare_if x (judge x p)).1

  state_direct : direct_by (admitted_of true (state_of w next end) p) ≡ cond (straight_in x p) (count_of (judge x p)) 0
  state_direct =
      direct_told true (state_of w next end) p
      ∙ ap (λ (z : merge.State (List ℕ) (Unit {0})). cond (straight_in z p) (count_of (judge z p)) 0) as_state
      ∙ (λ i. cond (bare_straight x p i) (count_of (bare-judge x p i)) 0)

  pub state_held : (held_by true (state_of w next end) p).waiting ≡ (held_by true x p).waiting
  state_held = ap (λ (z : merge.State (List ℕ) (Unit {0})). (held_by true z p).waiting) as_state ∙ bare-held x p

  pub state_known : Known w next end
  state_known =
      record {
        below =
            λ k m e.
            omega (arith, (waits_where g.inv k (ap (λ (h : ℕ → Option (List ℕ)). h k) (sym (ap₂ waiting_of window at ∙ waiting_for (within g))) ∙ e)).known, ends);
      }

-- ---- where the engine is

-- where no message is applied straight from the packet, those that wait are due behind one that is taken
from_nothing : (a : Result Admitted Refusal) (begin : ℕ) → direct_by a ≡ 0 → from_by a begin ≡ cond (eqb (refusal_or_none (refused_by a)) 0) 256 0
from_nothing (Ok admitted) begin e = ap (λ (n : ℕ). cond (eqb n 0) 256 begin) e
from_nothing (Err refusal) begin e = sym (ap (λ (b : Bool). cond b 256 0) (some_number refusal))

from_something : (a : Result Admitted Refusal) (begin : ℕ) → (direct_by a ≡ 0 → ⊥) → from_by a begin ≡ begin
from_something (Ok admitted) begin n = ap (λ (b : Bool). cond b 256 begin) (ne_eqb admitted.direct 0 n)
from_something (Err refusal) begin n = absurd (n refl)

none_direct : (b : Bool) (o : Option (Packet (List ℕ))) → o ≡ none → cond b (count_of o) 0 ≡ 0
none_direct true o e = ap count_of e
none_direct false o e = refl

straight_true : (b : Bool) (c : ℕ) {d : ℕ} → d ≡ cond b c 0 → (d ≡ 0 → ⊥) → b ≡ true
straight_true true c e n = refl
straight_true false c e n = absurd (n e)

refused-not : (x : Meaning) (p : List ℕ) → judge x p ≡ none → eqb (refusal_of x p) 0 ≡ false
unfolding judge
refused-not x p e = go (eqb (refusal_of x p) 0) e
  where
    go : (b : Bool) → cond b (some (packet_in p)) none ≡ none → b ≡ false
    go true h = absurd (none-ne-some _ (sym h))
    go false h = refl

accepted-not : (x : Meaning) (p : List ℕ) {q : Packet (List ℕ)} → judge x p ≡ some q → eqb (refusal_of x p) 0 ≡ true
accepted-not x p {q} e = eq-eqb (refusal_of x p) 0 (judged x p q e).0

keep_end : (x : Meaning) (q : Packet (List ℕ)) → x.end ≡ x.next → q.first ≡ x.next → (keep x q).end ≡ x.next + length q.messages
unfolding keep
keep_end x q level start = omega arith

-- a packet that starts at next has no more messages than the window has numbers
few_messages : (x : Meaning) (p : List ℕ) {q : Packet (List ℕ)} → judge x p ≡ some q → q.first ≡ x.next → length q.messages ≤ 256
few_messages x p {q} e start =
    by_cases (dec_lt 0 (length q.messages))
    (λ some-message. omega (arith, start, (overnight-judged feed).fits x p q e (q.first + length q.messages - 1) (record { low = omega arith; high = omega arith })))
    (λ none_there. omega arith)

-- where a message begins counts while one is left
begun_at : (s : List ℕ) (left from begin next : ℕ) (w : List ℕ) (waiting : ℕ → Option (List ℕ)) → ((left ≡ 0 → ⊥) → from ≡ begin) → Ahead s left begin next w waiting → Ahead s left from next w waiting
begun_at s zero from begin next w waiting is a = a
begun_at s (suc left) from begin next w waiting is a = subst (λ (n : ℕ). Ahead s (suc left) n next w waiting) (sym (is (λ z. omega arith))) a

-- a packet is admitted
module _ (task : Task) (x : Meaning) (s : List ℕ) (single : Bool) (answers : List ℕ) {os : List Order} {numbers w w' : List ℕ} {next end at left place : ℕ} {turn : Turn}
    (bytes : Bytes s) (g : Good x)
    (orders : os ≡ (book.rep x.tables).orders) (housed : numbers ≡ room_of task.next task.end (book.rep x.tables)) (window : w ≡ window_for x.waiting x.next) (nexts : next ≡ x.next) (ends : end ≡ x.end)
    (lie : Lies single s at) (fewer : left < task.count)
    (many : length (packets_from single task.count 0 s) + left ≡ task.count + length (packets_from single left (behind single s at) s))
    (stop : end_from single task.count 0 s ≡ end_from single left (behind single s at) s)
    (session : task.all ≡ take_all overnight x (packet_at single s at ∷ packets_from single left (behind single s at) s))
    (rows : task.written ≡ splice answers place (rows_of x (packet_at single s at ∷ packets_from single left (behind single s at) s)))
    (room : place + 4 + 4 * left ≤ length answers)
    (big : length answers ≤ 18446744073709551615)
    (turned : turn ≡ turn_of (state_of w next end) single s at left place)
    (after : w' ≡ window_for (held_by true (state_of w next end) (packet_at single s at)).waiting next) where
  part_of : Bytes (packet_at single s at)
  part_of = part_bytes s (frame_at single s at).start (frame_at single s at).size bytes

  good : Good (kept_by x (packet_at single s at))
  good = good_kept g (packet_at single s at) part_of

  after-held : w' ≡ window_for (held_by true x (packet_at single s at)).waiting x.next
  after-held = after ∙ ap₂ window_for (state_held x g window nexts ends (packet_at single s at)) nexts

  direct_is : turn.direct ≡ cond (straight_in x (packet_at single s at)) (count_of (judge x (packet_at single s at))) 0
  direct_is = ap (λ (t : Turn). t.direct) turned ∙ state_direct x g window nexts ends (packet_at single s at)

  from_is : turn.from ≡ from_by (admitted_of true (state_of w next end) (packet_at single s at)) ((frame_at single s at).start + min (frame_at single s at).size 12)
  from_is = ap (λ (t : Turn). t.from) turned

  refusal_is : refusal_or_none turn.refusal ≡ refusal_of x (packet_at single s at)
  refusal_is = ap (λ (t : Turn). refusal_or_none t.refusal) turned ∙ state_refusal x g window nexts ends (packet_at single s at)

  -- what is due behind the packet: its own messages, where they are applied straight from it; else all that wait, or none where it is
  -- refused
  from_none : turn.direct ≡ 0 → turn.from ≡ cond (eqb (refusal_or_none turn.refusal) 0) 256 0
  from_none e =
      from_is
      ∙ from_nothing (admitted_of true (state_of w next end) (packet_at single s at)) ((frame_at single s at).start + min (frame_at single s at).size 12) (sym (ap (λ (t : Turn). t.direct) turned) ∙ e)
      ∙ ap (λ (n : ℕ). cond (eqb n 0) 256 0) (sym (ap (λ (t : Turn). refusal_or_none t.refusal) turned))

  from_some : (turn.direct ≡ 0 → ⊥) → turn.from ≡ (frame_at single s at).start + min (frame_at single s at).size 12
  from_some n =
      from_is
      ∙ from_something (admitted_of true (state_of w next end) (packet_at single s at)) ((frame_at single s at).start + min (frame_at single s at).size 12) (λ e. n (ap (λ (t : Turn). t.direct) turned ∙ e))

  due_none : turn.direct ≡ 0 → due_of (record { left = turn.direct; from = turn.from }) ≡ cond (eqb (refusal_or_none turn.refusal) 0) 256 0
  due_none e = ap (λ (b : Bool). cond b turn.from turn.direct) (eq-eqb turn.direct 0 e) ∙ from_none e

  due_some : (turn.direct ≡ 0 → ⊥) → due_of (record { left = turn.direct; from = turn.from }) ≡ turn.direct
  due_some n = ap (λ (b : Bool). cond b turn.from turn.direct) (ne_eqb turn.direct 0 n)

  -- so all is applied that taking the packet applies
  record Due : Type 0 where
    is : take_one overnight x (packet_at single s at) ≡ finish (kept_by x (packet_at single s at)) (record { left = turn.direct; from = turn.from })
    few : due_of (record { left = turn.direct; from = turn.from }) ≤ 256
    level : (turn.direct ≡ 0 → ⊥) → x.next + turn.direct ≡ (kept_by x (packet_at single s at)).end

  due_by : (o : Option (Packet (List ℕ))) → judge x (packet_at single s at) ≡ o → Due
  unfolding take_one take_if kept_if apply_up_to
  due_by none e =
      let nothing : turn.direct ≡ 0 = direct_is ∙ none_direct (straight_in x (packet_at single s at)) (judge x (packet_at single s at)) e in
      let no : eqb (refusal_or_none turn.refusal) 0 ≡ false = ap (λ (n : ℕ). eqb n 0) refusal_is ∙ refused-not x (packet_at single s at) e in
      let due : due_of (record { left = turn.direct; from = turn.from }) ≡ 0 = due_none nothing ∙ ap (λ (b : Bool). cond b 256 0) no in
      record {
        is = ap (take_if overnight x) e ∙ sym (ap₂ (apply_up_to feed) due (ap (kept_if x) e));
        few = omega (arith, due);
        level = λ some-straight. absurd (some-straight nothing);
      }
  due_by (some q) e = by_cases (ℕ_discrete turn.direct 0) waits straight
    where
      taken_is : take_one overnight x (packet_at single s at) ≡ apply_up_to feed 256 (kept_by x (packet_at single s at))
      taken_is = ap (take_if overnight x) e ∙ ap (λ (o : Option (Packet (List ℕ))). apply_up_to feed 256 (kept_if x o)) (sym e)

      waits : turn.direct ≡ 0 → Due
      waits nothing =
          let yes : eqb (refusal_or_none turn.refusal) 0 ≡ true = ap (λ (n : ℕ). eqb n 0) refusal_is ∙ accepted-not x (packet_at single s at) e in
          let due : due_of (record { left = turn.direct; from = turn.from }) ≡ 256 = due_none nothing ∙ ap (λ (b : Bool). cond b 256 0) yes in
          record { is = taken_is ∙ ap (λ (n : ℕ). apply_up_to feed n (kept_by x (packet_at single s at))) (sym due); few = omega (arith, due); level = λ some-straight. absurd (some-straight nothing) }

      straight : (turn.direct ≡ 0 → ⊥) → Due
      straight some-straight =
          let b = straight_true (straight_in x (packet_at single s at)) (count_of (judge x (packet_at single s at))) direct_is some-straight in
          let count : turn.direct ≡ length q.messages = direct_is ∙ ap (λ (c : Bool). cond c (count_of (judge x (packet_at single s at))) 0) b ∙ ap count_of e in
          let level : x.end ≡ x.next = level_of x (packet_at single s at) b in
          let start : q.first ≡ x.next = starts_of x (packet_at single s at) b e in
          let kept-is : kept_by x (packet_at single s at) ≡ keep x q = ap (kept_if x) e in
          let ends_at : (kept_by x (packet_at single s at)).end ≡ x.next + turn.direct = ap (λ (z : Meaning). z.end) kept-is ∙ keep_end x q level start ∙ ap (λ (n : ℕ). x.next + n) (sym count) in
          let fits : turn.direct ≤ 256 = omega (arith, count, few_messages x (packet_at single s at) e start) in
          let settles : Settles feed turn.direct (kept_by x (packet_at single s at)) = reach_settles good.inv turn.direct (omega (arith, ends_at, (kept_next x (judge x (packet_at single s at))).0)) in
          let few : min 256 turn.direct ≡ turn.direct = omega arith in
          record {
            is =
                taken_is
                ∙ sym (apply_enough feed 256 turn.direct (kept_by x (packet_at single s at)) settles)
                ∙ ap (λ (n : ℕ). apply_up_to feed n (kept_by x (packet_at single s at))) (few ∙ sym (due_some some-straight));
            few = omega (arith, due_some some-straight, fits);
            level = λ again. sym ends_at;
          }

  due : Due
  due = due_by (judge x (packet_at single s at)) refl

  Led : Type 0
  Led = Ahead s turn.direct turn.from (kept_by x (packet_at single s at)).next w' (kept_by x (packet_at single s at)).waiting × (length w' ≡ 32768)

  led : (b : Bool) → straight_in x (packet_at single s at) ≡ b → Led
  unfolding Led
  led true e =
      let free : (k : ℕ) → x.waiting k ≡ none = nothing_waits g.inv (level_of x (packet_at single s at) e) in
      let is : w' ≡ window_for x.waiting x.next = after-held ∙ ap (λ (z : Meaning). window_for z.waiting x.next) (held_by_lem x (packet_at single s at) true e) in
      let first = ahead_of x s (frame_at single s at).start (frame_at single s at).size lie.within part_of free is e in
      let counted : count_of (judge x (packet_at single s at)) ≡ turn.direct = sym (direct_is ∙ ap (λ (c : Bool). cond c (count_of (judge x (packet_at single s at))) 0) e) in (
        subst (λ (n : ℕ). Ahead s turn.direct turn.from n w' (kept_by x (packet_at single s at)).waiting) (sym (kept_next x (judge x (packet_at single s at))).0)
            (begun_at s turn.direct turn.from ((frame_at single s at).start + min (frame_at single s at).size 12) x.next w' (kept_by x (packet_at single s at)).waiting from_some
            (subst (λ (n : ℕ). Ahead s n ((frame_at single s at).start + min (frame_at single s at).size 12) x.next w' (kept_by x (packet_at single s at)).waiting) counted first)),
        ap length is ∙ window_size (within g),
      )
  led false e =
      let is : w' ≡ window_for (kept_by x (packet_at single s at)).waiting (kept_by x (packet_at single s at)).next =
      after-held ∙ ap (λ (z : Meaning). window_for z.waiting x.next) (held_by_lem x (packet_at single s at) false e) ∙ ap (window_for (kept_by x (packet_at single s at)).waiting) (sym (kept_next x (judge x (packet_at single s at))).0) in
      let none_left : 0 ≡ turn.direct = sym (direct_is ∙ ap (λ (c : Bool). cond c (count_of (judge x (packet_at single s at))) 0) e) in (
        subst (λ (n : ℕ). Ahead s n turn.from (kept_by x (packet_at single s at)).next w' (kept_by x (packet_at single s at)).waiting) none_left is,
        ap length is ∙ window_size (within good),
      )

  pub opens : Open task s single answers os numbers w' next turn (record { left = turn.direct; from = turn.from })
  unfolding take_all rows_of Led
  opens =
      let before : turn.before ≡ next = ap (λ (t : Turn). t.before) turned in
      let kn = kept_next x (judge x (packet_at single s at)) in
      let begun : turn.begun ≡ true = ap (λ (t : Turn). t.begun) turned in
      let refusal : refusal_or_none turn.refusal ≡ refusal_of x (packet_at single s at) = refusal_is in
      let lefts : left ≡ turn.left = sym (ap (λ (t : Turn). t.left) turned) in
      let ats : behind single s at ≡ turn.at = sym (ap (λ (t : Turn). t.at) turned) in
      let rests : packets_from single left (behind single s at) s ≡ rest_of single s turn = λ i. packets_from single (lefts i) (ats i) s in
      let on = led (straight_in x (packet_at single s at)) refl in
      record {
        state = kept_by x (packet_at single s at);
        good = good;
        orders = orders ∙ ap (λ (t : Tables). (book.rep t).orders) (sym kn.1);
        housed = housed ∙ ap (λ (t : Tables). room_of task.next task.end (book.rep t)) (sym kn.1);
        ahead = on.0;
        long = on.1;
        at = nexts ∙ sym kn.0;
        end = ap (λ (t : Turn). t.end) turned ∙ state_end x g window nexts ends (packet_at single s at);
        low = omega arith;
        level = λ some-straight. ap (λ (n : ℕ). n + turn.direct) nexts ∙ due.level some-straight ∙ sym (ap (λ (t : Turn). t.end) turned ∙ state_end x g window nexts ends (packet_at single s at));
        within = omega (arith, lie.within, ats);
        left = omega (arith, fewer, lefts);
        taken = omega (arith, many, lefts, ap length rests);
        stop = stop ∙ (λ i. end_from single (lefts i) (ats i) s);
        session = session ∙ (λ i. take_all overnight (due.is i) (rests i));
        rows =
            rows
            ∙ ap (λ (z : Meaning). splice answers place (row_with x.next (refusal_of x (packet_at single s at)) z ++ rows_of z (packets_from single left (behind single s at) s))) due.is
            ∙ (λ i. splice answers (sym (ap (λ (t : Turn). t.place) turned) i) (answer_if (sym begun i) (row_with (sym (before ∙ nexts) i) (sym refusal i) (finish (kept_by x (packet_at single s at)) (record { left = turn.direct; from = turn.from }))) ++ rows_of (finish (kept_by x (packet_at single s at)) (record { left = turn.direct; from = turn.from })) (rests i)));
        room = subst (λ (t : Turn). place_after t + 4 * t.left ≤ length answers) (sym turned) room;
        big = big;
      }

  pub opens_few : due_of (record { left = turn.direct; from = turn.from }) ≤ 256
  opens_few = due.few

-- the first of the messages that are left in the packet
record Leads (s : List ℕ) (left from next : ℕ) (w : List ℕ) (waiting : ℕ → Option (List ℕ)) : Type 0 where
  waits : waiting next ≡ some (part s from (length_at s from))
  within : from + length_at s from ≤ length s
  rest : Ahead s (left - 1) (from + length_at s from) (next + 1) w (freed next waiting)

leads : (s : List ℕ) (left from next : ℕ) (w : List ℕ) (waiting : ℕ → Option (List ℕ)) → (left ≡ 0 → ⊥) → Ahead s left from next w waiting → Leads s left from next w waiting
leads s zero from next w waiting any a = absurd (any refl)
leads s (suc left) from next w waiting any a =
    let one : left ≡ suc left - 1 = omega arith in
    record { waits = a.0; within = a.1.0; rest = subst (λ (n : ℕ). Ahead s n (from + length_at s from) (next + 1) w (freed next waiting)) one a.1.1 }

none_ahead : (s : List ℕ) (left from next : ℕ) (w : List ℕ) (waiting : ℕ → Option (List ℕ)) → left ≡ 0 → Ahead s left from next w waiting → w ≡ window_for waiting next
none_ahead s left from next w waiting e a = subst (λ (n : ℕ). Ahead s n from next w waiting) e a

-- what the code knows of a message at next, once it is copied out
pub record Here (s : List ℕ) (rest : PacketRest) (size : ℕ) (text : List ℕ) (turn : Turn) (next : ℕ) : Type 0 where
  pub whole : Whole (message_at text s rest size)
  pub lies : InBytes s rest size
  pub cut : size ≤ length text
  pub long : size ≡ length (take size text)
  pub wide : length text ≡ 128
  pub below : next < 4294967296
  pub fewer : turns_left turn (next + 1) (onward_of rest size) < turns_left turn next rest

-- the size of what waits, where one is due
record DueSize (due n : ℕ) : Type 0 where
  is : due_size due n ≡ n
  some_due : due ≡ 0 → ⊥

due_size_lem : (due n : ℕ) → (due_size due n ≡ 0 → ⊥) → DueSize due n
due_size_lem due n used = go (eqb due 0) refl
  where
    go : (b : Bool) → eqb due 0 ≡ b → DueSize due n
    go true e = absurd (used (ap (λ (b : Bool). cond b 0 n) e))
    go false e = record { is = ap (λ (b : Bool). cond b 0 n) e; some_due = eqb-false due 0 e }

no_size : (due n : ℕ) → (due ≡ 0 → ⊥) → due_size due n ≡ 0 → n ≡ 0
no_size due n some_due none_there = sym (ap (λ (b : Bool). cond b 0 n) (ne_eqb due 0 some_due)) ∙ none_there

-- what is due, with none left in the packet and with some left
due_window : (rest : PacketRest) → rest.left ≡ 0 → due_of rest ≡ rest.from
due_window rest e = ap (λ (b : Bool). cond b rest.from rest.left) (eq-eqb rest.left 0 e)

due_packet : (rest : PacketRest) → (rest.left ≡ 0 → ⊥) → due_of rest ≡ rest.left
due_packet rest n = ap (λ (b : Bool). cond b rest.from rest.left) (ne_eqb rest.left 0 n)

-- what waits at next, by the size where it lies
module _ {task : Task} {s : List ℕ} {single : Bool} {answers : List ℕ} {os : List Order} {numbers w : List ℕ} {next : ℕ} {turn : Turn} {rest : PacketRest}
    (o : Open task s single answers os numbers w next turn rest) where
  abbrev pub tabled : Book
  tabled = book.rep o.state.tables

  pub orders_long : length os ≡ 256
  orders_long = ap length o.orders ∙ (kept o.good).orders

  pub closes : Closes turn next (length answers)
  closes = record { low = o.low; room = omega (arith, o.room) }

  waits_in : rest.left ≡ 0 → waits_at w (next % 256) ≡ o.state.waiting o.state.next
  waits_in none_left =
      let is : w ≡ window_for o.state.waiting o.state.next = none_ahead s rest.left rest.from o.state.next w o.state.waiting none_left o.ahead in
      sym (waits_place w next next (omega arith) (omega arith))
      ∙ (λ i. (ap₂ waiting_of is o.at ∙ waiting_for (within o.good)) i (o.at i))

  module _ (some_left : rest.left ≡ 0 → ⊥) where
    led_by : Leads s rest.left rest.from o.state.next w o.state.waiting
    led_by = leads s rest.left rest.from o.state.next w o.state.waiting some_left o.ahead

    led_whole : Whole (part s rest.from (length_at s rest.from))
    led_whole = o.good.whole o.state.next (part s rest.from (length_at s rest.from)) led_by.waits

    led_least : 3 ≤ length_at s rest.from
    led_least = omega (arith, led_whole.least, part_long s rest.from (length_at s rest.from))

  pub begins : Begins s rest
  begins = record { within = λ n. omega (arith, (led_by n).within, led_least n) }

  module _ {size : ℕ} (told : size ≡ size_in w s rest (next % 256)) where
    -- nothing waits: the packet at hand is done
    module _ (free : size ≡ 0) where
      none_left : rest.left ≡ 0
      none_left = by_cases (ℕ_discrete rest.left 0) (λ e. e) (λ n. absurd (omega (arith, free, told, size_packet rest n w s (next % 256), led_least n)))

      window : w ≡ window_for o.state.waiting o.state.next
      window = none_ahead s rest.left rest.from o.state.next w o.state.waiting none_left o.ahead

      pub holds : Neat w next
      holds = subst (Neat w) (sym o.at) (subst (λ (l : List ℕ). Neat l o.state.next) (sym window) (neat o.good))

      pub known : Known w next turn.end
      known = state_known o.state o.good window o.at o.end []

      front : (rest.from ≡ 0 → ⊥) → o.state.waiting o.state.next ≡ none
      front some_due =
          sym (waits_in none_left)
          ∙ place_free w (next % 256) (no_size rest.from (size_at w (next % 256)) some_due (sym (size_window rest none_left w s (next % 256)) ∙ sym told ∙ free))

      settled : finish o.state rest ≡ o.state
      unfolding apply_up_to
      settled =
          by_cases (ℕ_discrete rest.from 0)
          (λ e. ap (λ (n : ℕ). apply_up_to feed n o.state) (due_window rest none_left ∙ e))
          (λ n. stuck feed (due_of rest) (front n))

      closed : closing turn next ≡ answer_if turn.begun (row_with turn.before (refusal_or_none turn.refusal) o.state)
      closed = λ i. answer_if turn.begun ((o.at i - turn.before) ∷ refusal_or_none turn.refusal ∷ o.at i ∷ o.end i ∷ [])

      row_long : turn.place + length (closing turn next) ≡ place_after turn
      row_long = go turn.begun
        where
          go : (begun : Bool) → turn.place + length (answer_if begun ((next - turn.before) ∷ refusal_or_none turn.refusal ∷ next ∷ turn.end ∷ [])) ≡ place_if begun turn.place
          go true = refl
          go false = omega arith

      module _ {answers' : List ℕ} (put : answers' ≡ splice answers turn.place (closing turn next)) where
        put_row_lem : task.written ≡ splice answers' (place_after turn) (rows_of o.state (rest_of single s turn))
        put_row_lem =
            o.rows
            ∙ ap (λ (z : Meaning). splice answers turn.place (rows_from turn z (rest_of single s turn))) settled
            ∙ ap (λ (l : List ℕ). splice answers turn.place (l ++ rows_of o.state (rest_of single s turn))) (sym closed)
            ∙ sym (splice_next answers turn.place (closing turn next) (rows_of o.state (rest_of single s turn)) (omega (arith, closes.room, row_long)))
            ∙ ap₂ (λ (l : List ℕ) (n : ℕ). splice l n (rows_of o.state (rest_of single s turn))) (sym put) row_long

        pub same_length : length answers' ≡ length answers
        same_length = ap length put ∙ length-splice answers turn.place (closing turn next) (omega (arith, closes.room, row_long))

        -- the last one
        module _ (last : done_in single s turn ≡ true) where
          none_follows : Ended single s turn
          none_follows = ended single s turn last

          pub ends : Over task s single os (set (set numbers 0 next) 1 turn.end) w answers' (between_of next turn rest)
          unfolding take_all rows_of parts_of
          ends =
              let none_is : rest_of single s turn ≡ [] = none_follows.packets in
              let whole_run : task.all ≡ o.state = o.session ∙ ap₂ (take_all overnight) settled none_is in
              record {
                held = (λ i. held (record { orders = o.orders i }) (set (set (o.housed i) 0 (o.at i)) 1 (o.end i)) (window i)) ∙ ap rep (sym whole_run);
                answers = sym (put_row_lem ∙ ap (λ (l : List (List ℕ)). splice answers' (place_after turn) (rows_of o.state l)) none_is ∙ splice-none answers' (place_after turn));
                left = o.left;
                taken = omega (arith, o.taken, o.left, ap length none_is);
                at = sym (o.stop ∙ none_follows.end);
              }

        -- another one
        module _ (other : done_in single s turn ≡ false) where
          one_follows : Another single s turn
          one_follows = another single s turn other

          pub more : Follows single s turn
          more = record { left = one_follows.some; place = omega (arith, closes.room, o.big); lies = one_follows.lies }

          pub follows : {w' : List ℕ} {turn' : Turn} → Bytes s → turn' ≡ turn_of (state_of w next turn.end) single s turn.at (turn.left - 1) (place_after turn)
              → w' ≡ window_for (held_by true (state_of w next turn.end) (packet_at single s turn.at)).waiting next
              → Open task s single answers' os numbers w' next turn' (record { left = turn'.direct; from = turn'.from })
          follows {w'} {turn'} bytes turned after =
              opens task o.state s single answers' bytes o.good o.orders o.housed window o.at o.end
              one_follows.lies
              (omega (arith, o.left, one_follows.some))
              (omega (arith, o.taken, one_follows.some, ap length one_follows.packets))
              (o.stop ∙ one_follows.end)
              (o.session ∙ ap₂ (take_all overnight) settled one_follows.packets)
              (put_row_lem ∙ ap (λ (l : List (List ℕ)). splice answers' (place_after turn) (rows_of o.state l)) one_follows.packets)
              (omega (arith, o.room, one_follows.some, same_length))
              (omega (arith, o.big, same_length))
              turned
              after

          pub follows_few : {w' : List ℕ} {turn' : Turn} → Bytes s → turn' ≡ turn_of (state_of w next turn.end) single s turn.at (turn.left - 1) (place_after turn)
              → w' ≡ window_for (held_by true (state_of w next turn.end) (packet_at single s turn.at)).waiting next
              → due_of (record { left = turn'.direct; from = turn'.from }) ≤ 256
          follows_few {w'} {turn'} bytes turned after =
              opens_few task o.state s single answers' bytes o.good o.orders o.housed window o.at o.end
              one_follows.lies
              (omega (arith, o.left, one_follows.some))
              (omega (arith, o.taken, one_follows.some, ap length one_follows.packets))
              (o.stop ∙ one_follows.end)
              (o.session ∙ ap₂ (take_all overnight) settled one_follows.packets)
              (put_row_lem ∙ ap (λ (l : List (List ℕ)). splice answers' (place_after turn) (rows_of o.state l)) one_follows.packets)
              (omega (arith, o.room, one_follows.some, same_length))
              (omega (arith, o.big, same_length))
              turned
              after

    -- a message waits: it is applied
    module _ (used : size ≡ 0 → ⊥) (text : List ℕ) {text' : List ℕ} (wide : length text ≡ 128) (fetched : text' ≡ text_after w text rest (next % 256)) where
      abbrev m : List ℕ
      m = message_at text' s rest size

      -- in the window
      module _ (none_left : rest.left ≡ 0) where
        sized_there : DueSize rest.from (size_at w (next % 256))
        sized_there = due_size_lem rest.from (size_at w (next % 256)) (λ e. used (told ∙ size_window rest none_left w s (next % 256) ∙ e))

        in_window : o.state.waiting o.state.next ≡ some (part w (start_of (next % 256)) size)
        in_window =
            let is : size ≡ size_at w (next % 256) = told ∙ size_window rest none_left w s (next % 256) ∙ sized_there.is in
            sym (waits_in none_left)
            ∙ place_used w (next % 256) (λ e. used (is ∙ e))
            ∙ ap (λ (n : ℕ). some (part w (start_of (next % 256)) n)) (sym is)

        short : size ≤ 128
        short = omega (arith, (o.good.whole o.state.next (part w (start_of (next % 256)) size) in_window).most, part_long w (start_of (next % 256)) size)

        is_copied : m ≡ part w (start_of (next % 256)) size
        is_copied =
            message_window rest none_left text' s size
            ∙ ap (take size) (fetched ∙ text_window rest none_left w text (next % 256))
            ∙ part_front w (start_of (next % 256)) 128 size short

      -- in the packet
      module _ (some_left : rest.left ≡ 0 → ⊥) where
        size_led : size ≡ length_at s rest.from
        size_led = told ∙ size_packet rest some_left w s (next % 256)

        is_led : m ≡ part s rest.from (length_at s rest.from)
        is_led = message_packet rest some_left text' s size ∙ ap (part s rest.from) size_led

      waits : o.state.waiting o.state.next ≡ some m
      waits =
          by_cases (ℕ_discrete rest.left 0)
          (λ e. in_window e ∙ ap some (sym (is_copied e)))
          (λ n. (led_by n).waits ∙ ap some (sym (is_led n)))

      sized : length m ≡ size
      sized =
          by_cases (ℕ_discrete rest.left 0)
          (λ e. ap length (is_copied e) ∙ part_long w (start_of (next % 256)) size)
          (λ n. ap length (is_led n) ∙ part_long s rest.from (length_at s rest.from) ∙ sym (size_led n))

      whole : Whole m
      whole = o.good.whole o.state.next m waits

      fits : size ≤ 128
      fits = omega (arith, whole.most, sized)

      wider : length text' ≡ 128
      wider =
          by_cases (ℕ_discrete rest.left 0)
          (λ e. ap length (fetched ∙ text_window rest e w text (next % 256)) ∙ part_long w (start_of (next % 256)) 128)
          (λ n. ap length (fetched ∙ text-packet rest n w text (next % 256)) ∙ wide)

      cut : size ≤ length text'
      cut = omega (arith, fits, wider)

      lies : InBytes s rest size
      lies = record { within = λ n. omega (arith, (led_by n).within, size_led n) }

      pub goes : length s ≤ 18446744073709551615 → Goes rest size
      goes most = record { due = λ e. some_of rest.from (sized_there e).some_due; within = λ n. omega (arith, lies.within n) }
        where
          some_of : (n : ℕ) → (n ≡ 0 → ⊥) → 1 ≤ n
          some_of zero h = absurd (h refl)
          some_of (suc n) h = omega arith

      some_one : (n : ℕ) → (n ≡ 0 → ⊥) → 1 ≤ n
      some_one zero h = absurd (h refl)
      some_one (suc n) h = omega arith

      -- a message waits, so next is below end
      early : next < turn.end
      early = omega (arith, o.at, o.end, (waits_where o.good.inv o.state.next waits).known)

      -- one less is due; or it was the last one in the packet, and next is end behind it
      due_less : (next + 1 ≡ turn.end → ⊥) → due_of rest ≡ suc (due_of (onward_of rest size))
      due_less more =
          by_cases (ℕ_discrete rest.left 0)
          (λ e.
          let some_due : 1 ≤ rest.from = some_one rest.from (sized_there e).some_due in
          omega (arith, due_window rest e, ap due_of (onward_window rest e size)))
          (λ n.
          let least : 1 ≤ rest.left = some_one rest.left n in
          let others : rest.left - 1 ≡ 0 → ⊥ = λ z. more (omega (arith, o.level n, least, z)) in
          omega (arith, due_packet rest n, least, ap due_of (onward_packet rest n size) ∙ due_packet (record { left = rest.left - 1; from = rest.from + size }) others))

      some_due : 1 ≤ due_of rest
      some_due =
          by_cases (ℕ_discrete rest.left 0)
          (λ e. omega (arith, due_window rest e, some_one rest.from (sized_there e).some_due))
          (λ n. omega (arith, due_packet rest n, some_one rest.left n))

      due_here : cond (eqb next turn.end) 0 (due_of rest) ≡ due_of rest
      due_here = ap (λ (b : Bool). cond b 0 (due_of rest)) (ne_eqb next turn.end (λ e. omega (arith, early, e)))

      due_fewer : cond (eqb (next + 1) turn.end) 0 (due_of (onward_of rest size)) < cond (eqb next turn.end) 0 (due_of rest)
      due_fewer =
          by_cases (ℕ_discrete (next + 1) turn.end)
          (λ e. omega (arith, due_here, some_due, ap (λ (b : Bool). cond b 0 (due_of (onward_of rest size))) (eq-eqb (next + 1) turn.end e)))
          (λ n. omega (arith, due_here, due_less n, ap (λ (b : Bool). cond b 0 (due_of (onward_of rest size))) (ne_eqb (next + 1) turn.end n)))

      number-below : next < 4294967296
      number-below = omega (arith, o.at, waits-below o.good o.state.next waits)

      houses : Houses numbers task.next task.end tabled next m
      houses =
          record {
            ready = subst (λ (n : ℕ). Ready tabled n m) (sym o.at) (ready o.good waits);
            is = o.housed;
          }

      pub houses_read : {bytes : List ℕ} → bytes ≡ m → Houses numbers task.next task.end tabled next bytes
      houses_read is = subst (Houses numbers task.next task.end tabled next) (sym is) houses

      moved : Meaning
      moved = step feed o.state (some m)

      -- where next is end behind it, nothing waits, and whatever is due is nothing
      moved_level : next + 1 ≡ turn.end → (c : ℕ) → apply_up_to feed c moved ≡ moved
      unfolding moved step
      moved_level e c = stuck feed c (nothing_waits (good_step o.good waits).inv (omega (arith, o.at, o.end, e)) (o.state.next + 1))

      one_step : (c : ℕ) → apply_up_to feed (suc c) o.state ≡ apply_up_to feed c moved
      unfolding apply_up_to moved
      one_step c = ap (λ (q : Option (List ℕ)). apply_up_to feed c (step feed o.state q)) waits

      onward : finish o.state rest ≡ finish moved (onward_of rest size)
      onward =
          by_cases (ℕ_discrete (next + 1) turn.end)
          (λ e.
          let some-steps : due_of rest ≡ suc (due_of rest - 1) = omega (arith, some_due) in
          ap (λ (n : ℕ). apply_up_to feed n o.state) some-steps ∙ one_step (due_of rest - 1) ∙ moved_level e (due_of rest - 1) ∙ sym (moved_level e (due_of (onward_of rest size))))
          (λ n. ap (λ (k : ℕ). apply_up_to feed k o.state) (due_less n) ∙ one_step (due_of (onward_of rest size)))

      -- the place in the window is free
      freed_place : rest.left ≡ 0 → splice w (start_of (next % 256)) (zeros 128) ≡ window_for moved.waiting moved.next
      unfolding window_for step moved
      freed_place none_left =
          let x : Meaning = o.state in
          let place : ℕ → Option (List ℕ) = placed (within o.good) in
          let i : ℕ = x.next % 256 in
          let lt : i < 256 = mod-lt x.next {m = 256} (omega arith) in
          let is : w ≡ window_for x.waiting x.next = none_ahead s rest.left rest.from x.next w x.waiting none_left o.ahead in
          let after : InPlaces 256 (with place i none) (step feed x (some m)) =
          step_put (record { holds = in_places (within o.good) }) feed m (record { there = with_same place i none; others = λ j lo ne. with_other place i none j ne }) in
          ap₂ (λ (l : List ℕ) (n : ℕ). splice l (start_of (n % 256)) (zeros 128)) is o.at
          ∙ clear_window place (fine (within o.good)) i lt
          ∙ same_window (with place i none) (λ j. (step feed x (some m)).waiting (number_at 256 (x.next + 1) j)) (λ j h. held_place after j h)

      Led' : Type 0
      Led' = Ahead s (onward_of rest size).left (onward_of rest size).from moved.next (window_after w rest (next % 256)) moved.waiting × (length (window_after w rest (next % 256)) ≡ 32768)

      led_on : Led'
      unfolding Led' step freed_at moved
      led_on =
          by_cases (ℕ_discrete rest.left 0)
          (λ e.
          let is : window_after w rest (next % 256) ≡ window_for moved.waiting moved.next = freed_window rest e w (next % 256) ∙ freed_place e in
          let nought : 0 ≡ (onward_of rest size).left = sym (ap (λ (z : PacketRest). z.left) (onward_window rest e size)) in
          (subst (λ (n : ℕ). Ahead s n (onward_of rest size).from moved.next (window_after w rest (next % 256)) moved.waiting) nought is, ap length is ∙ window_size (within (good_step o.good waits))))
          (λ n.
          let on : onward_of rest size ≡ record { left = rest.left - 1; from = rest.from + size } = onward_packet rest n size in
          let to : rest.from + length_at s rest.from ≡ rest.from + size = ap (λ (k : ℕ). rest.from + k) (sym (size_led n)) in (
            subst (λ (z : PacketRest). Ahead s z.left z.from moved.next (window_after w rest (next % 256)) moved.waiting) (sym on)
                (subst (λ (l : List ℕ). Ahead s (rest.left - 1) (rest.from + size) moved.next l moved.waiting) (sym (freed-packet rest n w (next % 256)))
                (subst (λ (k : ℕ). Ahead s (rest.left - 1) k moved.next w moved.waiting) to (led_by n).rest)),
            ap length (freed-packet rest n w (next % 256)) ∙ o.long,
          ))

      level_on : ((onward_of rest size).left ≡ 0 → ⊥) → next + 1 + (onward_of rest size).left ≡ turn.end
      level_on some_left =
          by_cases (ℕ_discrete rest.left 0)
          (λ e. absurd (some_left (ap (λ (z : PacketRest). z.left) (onward_window rest e size))))
          (λ n. omega (arith, o.level n, some_one rest.left n, ap (λ (z : PacketRest). z.left) (onward_packet rest n size)))

      pub applied : {os' : List Order} {numbers' w' : List ℕ} {rest' : PacketRest} → os' ≡ (after tabled next m).orders → numbers' ≡ room_of task.next task.end (after tabled next m)
          → w' ≡ window_after w rest (next % 256) → rest' ≡ onward_of rest size → Open task s single answers os' numbers' w' (next + 1) turn rest'
      unfolding step moved Led'
      applied {os'} {numbers'} {w'} {rest'} orders housed is on =
          let behind : after tabled next m ≡ book.rep (apply_of o.state.tables o.state.next m) = ap₂ (λ (t : Tables) (n : ℕ). book.rep (apply_of t n m)) (keeping.view-rep o.state.tables) o.at in
          record {
            state = step feed o.state (some m);
            good = good_step o.good waits;
            orders = orders ∙ ap (λ (b : Book). b.orders) behind;
            housed = housed ∙ ap (room_of task.next task.end) behind;
            ahead =
                subst (λ (z : PacketRest). Ahead s z.left z.from (o.state.next + 1) w' (freed_at o.state)) (sym on)
                (subst (λ (l : List ℕ). Ahead s (onward_of rest size).left (onward_of rest size).from (o.state.next + 1) l (freed_at o.state)) (sym is) led_on.0);
            long = ap length is ∙ led_on.1;
            at = ap (λ (n : ℕ). n + 1) o.at;
            end = o.end;
            low = omega (arith, o.low);
            level = subst (λ (z : PacketRest). (z.left ≡ 0 → ⊥) → next + 1 + z.left ≡ turn.end) (sym on) level_on;
            within = o.within;
            left = o.left;
            taken = o.taken;
            stop = o.stop;
            session = o.session ∙ ap (λ (z : Meaning). take_all overnight z (rest_of single s turn)) (onward ∙ ap (finish moved) (sym on));
            rows = o.rows ∙ ap (λ (z : Meaning). splice answers turn.place (rows_from turn z (rest_of single s turn))) (onward ∙ ap (finish moved) (sym on));
            room = o.room;
            big = o.big;
          }

      pub here : Here s rest size text' turn next
      here =
          record {
            whole = whole;
            lies = lies;
            cut = cut;
            long = sym (length-take-le size text' cut);
            wide = wider;
            below = number-below;
            fewer = omega (arith, due_fewer);
          }

      -- it is done but for what it leaves to do in the order table
      module _ {numbers' w' : List ℕ} {rest' : PacketRest} {r : Maybe Touch} {bytes : List ℕ} (is : bytes ≡ m) (done : Touched numbers' task.next task.end tabled next bytes r)
          (clear : w' ≡ window_after w rest (next % 256)) (on : rest' ≡ onward_of rest size) (space : length answers ≡ task.space) where
        touched : Touched numbers' task.next task.end tabled next m r
        touched = subst (λ (l : List ℕ). Touched numbers' task.next task.end tabled next l r) is done

        module _ (touch : Touch) (some-order : r ≡ Some touch) where
          goes_on : {os' : List Order} {rooms : List ℕ} → os' ≡ (after tabled next m).orders → rooms ≡ room_of task.next task.end (after tabled next m)
              → Going task s single os' rooms w' answers text' (at_hand_of touch rest size (next + 1) turn rest')
          goes_on orders housed = record { now = applied orders housed clear on; wide = wider; long = space }

          place_within : touch.place < 256
          place_within =
              by_cases (ℕ_discrete (type_in m) 21)
              (λ e. (touched.adds touch some-order e).within)
              (λ n. found_within tabled.keys tabled.live (named_in tabled m).key (kept o.good).live refl (touched.names touch some-order n).place_is)

          pub waits_so : Waits task s single os numbers' w' answers text' (at_hand_of touch rest size (next + 1) turn rest') (hand_of touch rest size)
          waits_so =
              record {
                whole = whole;
                lies = lies;
                cut = cut;
                wide = wider;
                many = orders_long;
                within = place_within;
                puts =
                    λ e.
                    let a : PutAt numbers' task.next task.end tabled next m touch = touched.adds touch some-order e in
                    record { naming = a.naming; going = goes_on (ap (λ (l : List Order). set l touch.place (order_of (fields_of 21 m))) o.orders ∙ sym a.orders) a.is };
                names =
                    λ n.
                    let a : NamedAt numbers' task.next task.end tabled m touch = touched.names touch some-order n in
                    record {
                      tables = tabled;
                      number = next;
                      behind = refl;
                      kind = a.kind;
                      houses = record { ready = houses.ready; is = a.is };
                      orders = o.orders;
                      named = a.name;
                      place_is = a.place_is;
                      going = goes_on;
                    };
              }

        pub passes_so : r ≡ None → Going task s single os numbers' w' answers text' (between_of (next + 1) turn rest')
        passes_so none-touched =
            record { now = applied (o.orders ∙ sym (touched.passes none-touched).orders) (touched.passes none-touched).is clear on; wide = wider; long = space }

-- a packet more is begun: of those that follow one is less, and no more is due than can wait
pub less_turn : (turn turn' : Turn) (next : ℕ) (rest rest' : PacketRest) → turn'.left ≡ turn.left - 1 → due_of rest' ≤ 256 → 1 ≤ turn.left → turns_left turn' next rest' < turns_left turn next rest
less_turn turn turn' next rest rest' left few least = omega (arith, no_more (eqb next turn'.end) (due_of rest'))
  where
    no_more : (b : Bool) (n : ℕ) → cond b 0 n ≤ n
    no_more true n = omega arith
    no_more false n = omega arith

-- ---- from the start on

-- where the burst begins: no packet is at hand
module _ {session : Held} (rule : Ruled session) (s : List ℕ) (single : Bool) {count : ℕ} (answers : List ℕ) (due : ℕ) (runs : Runs count (length answers)) where
  pub starts : {turn : Turn} → turn ≡ at_start (next_in session.room) (end_in session.room) count
      → Open (task_of session s single count answers due) s single answers session.session.orders session.room session.window (next_in session.room) turn (record { left = 0; from = due })
  unfolding parts_of
  starts {turn} turned =
      let h : Stands session = stands rule in
      let x : Meaning = h.state in
      let nexts : next_in session.room ≡ x.next = ap (λ (z : Held). next_in z.room) h.same in
      let ends : end_in session.room ≡ x.end = ap (λ (z : Held). end_in z.room) h.same in
      let is : session.window ≡ window_for x.waiting x.next = ap (λ (z : Held). z.window) h.same in
      let lefts : count ≡ turn.left = sym (ap (λ (t : Turn). t.left) turned) in
      let ats : 0 ≡ turn.at = sym (ap (λ (t : Turn). t.at) turned) in
      let packets : packets_from single count 0 s ≡ rest_of single s turn = λ i. packets_from single (lefts i) (ats i) s in
      let before : turn.before ≡ next_in session.room = ap (λ (t : Turn). t.before) turned in
      record {
        state = x;
        good = h.good;
        orders = ap (λ (z : Held). z.session.orders) h.same;
        housed = ap (λ (z : Held). z.room) h.same ∙ (λ i. room_of (sym nexts i) (sym ends i) (book.rep x.tables));
        ahead = is;
        long = ap length is ∙ window_size (within h.good);
        at = nexts;
        end = ap (λ (t : Turn). t.end) turned ∙ ends;
        low = omega arith;
        level = λ some_left. absurd (some_left refl);
        within = omega (arith, ats);
        left = omega (arith, lefts);
        taken = omega (arith, lefts, ap length packets);
        stop = λ i. end_from single (lefts i) (ats i) s;
        session = (λ i. take_all overnight (apply_up_to feed due (meaning h i)) (packets i));
        rows =
            (λ i. splice answers 0 (rows_of (apply_up_to feed due (meaning h i)) (packets i)))
            ∙ (λ i. splice answers (sym (ap (λ (t : Turn). t.place) turned) i) (answer_if (sym (ap (λ (t : Turn). t.begun) turned) i) (row_with turn.before (refusal_or_none turn.refusal) (apply_up_to feed due x)) ++ rows_of (apply_up_to feed due x) (rest_of single s turn)));
        room = subst (λ (t : Turn). place_after t + 4 * t.left ≤ length answers) (sym turned) (omega (arith, runs.room));
        big = runs.big;
      }
