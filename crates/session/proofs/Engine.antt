-- The engine between two turns: where a run begins, what a turn that goes on keeps, and what a message at hand comes to once its
-- outcome is stored.
-- Assumes nothing.
use mathlib.Core.Path.{◌≡◌, refl, ap, ap₂, ◌∙◌, sym, subst}
use mathlib.Core.Bool.{Bool, true, false}
use mathlib.Core.List.{List}
use Prim.Native.Nat.{ℕ, ◌+◌, ◌-◌, ◌≤◌, ◌<◌}
use native.Mathlib.Omega.{arith}
use lib.ListN.{length, get_or, set}
use lib.Seq.{set-get_or}
use Rattle.std.specs.Prelude.{Option, Some, None, is_some, unwrap_or}
use Rattle.std.proofs.lemmas.Bool.{false≢true}
use Rattle.message.specs.Layouts.{type_in}
use Rattle.message.specs.Row.{fields_of}
use Rattle.book.specs.Applying.{names, order_of, repriced}
use Rattle.book.specs.Lookup.{place_found}
use Rattle.book.specs.Tables.{Book, blank, no_order}
use Rattle.book.specs.declared.tables.Order.{Order}
use Rattle.book_room.specs.Arms.{Added, Changed, Known, Told, named_in, orders_changed, orders_put}
use Rattle.book_room.specs.Room.{Houses, Lies}
use Rattle.book_room.specs.declared.adding.Placed.{Placed}
use Rattle.book_room.specs.declared.changing.Act.{Act}
use Rattle.book_room.specs.declared.changing.Act.TheVariants as act
use Rattle.book_room.specs.declared.changing.Name.{Name}
use Rattle.session_message.specs.declared.PacketRest.{PacketRest}
use Rattle.window_taking.specs.declared.burst.Turn.{Turn}
use Rattle.session.specs.Meaning.{Held, Ruled, end_in, next_in}
use Rattle.session.specs.Bursts.{Runs}
use Rattle.session.specs.Engine.{AtPlace, Came, Going, NamedAt, Names, Over, PutAt, Puts, Settled, Task, Touched, Waits, at_hand_of, begin_of, between_of, bytes_of, hand_of, steps_left, stored_by, task_of, turns_left}
use Rattle.session.specs.declared.advancing.AtHand.{AtHand}
use Rattle.session.specs.declared.advancing.Point.{Point}
use Rattle.session.specs.declared.settling.Outcome.{Outcome}
use Rattle.session.specs.declared.settling.Outcome.TheVariants.{Moves, Stores}
use Rattle.session.specs.declared.touching.Touch.{Touch}
use Rattle.session.proofs.Runs.{orders_long, starts}

pub some_none : {A B : Type 0} {a : A} → Some a ≡ None → B
some_none e = absurd (false≢true (ap is_some (sym e)))

some_same : {A : Type 0} {a b : A} → Some a ≡ Some b → a ≡ b
some_same {a} e = ap (λ o. unwrap_or o a) e

true_false : true ≡ false → ⊥
true_false e = false≢true (sym e)

last_in : Outcome → ℕ → ℕ
last_in (Moves last) k = last
last_in (Stores order) k = k

moves_same : {j k : ℕ} → Moves j ≡ Moves k → j ≡ k
unfolding last_in
moves_same {j} e = ap (λ (x : Outcome). last_in x j) e

stores_moves : {A : Type 0} {o : Order} {k : ℕ} → Stores o ≡ Moves k → A
unfolding last_in
stores_moves {k = k} e = absurd (omega (arith, ap (λ (x : Outcome). last_in x (k + 1)) e))

-- ---- a run begins

pub going_starts : {h : Held} → Ruled h → (s : List ℕ) (single : Bool) {count : ℕ} (answers : List ℕ) (due : ℕ) → Runs count (length answers)
    → (text : List ℕ) → length text ≡ 128 → {point : Point} → point ≡ begin_of (next_in h.room) (end_in h.room) count due
    → Going (task_of h s single count answers due) s single h.session.orders h.room h.window answers text point
going_starts {h} rule s single {count} answers due runs text wide e =
    subst (Going (task_of h s single count answers due) s single h.session.orders h.room h.window answers text) (sym e)
    (record { now = starts rule s single answers due runs refl; wide = wide; long = refl })

module _ {t : Task} {s : List ℕ} {single : Bool} {os : List Order} {room window answers text : List ℕ} {point : Point} where
  pub going_long : Going t s single os room window answers text point → length answers ≡ t.space
  going_long g = g.long

  pub going_orders : Going t s single os room window answers text point → length os ≡ 256
  going_orders g = orders_long g.now

  pub waits_orders : {hand : AtHand} → Waits t s single os room window answers text point hand → length os ≡ 256
  waits_orders w = w.many

  -- of a point, next, turn and rest are read
  pub from_between : Going t s single os room window answers text point → Going t s single os room window answers text (between_of point.next point.turn point.rest)
  from_between g = record { now = g.now; wide = g.wide; long = g.long }

-- ---- one message

module _ {room : List ℕ} {next end : ℕ} {b : Book} {number : ℕ} {s : List ℕ} where
  pub touched_put : {p : Option Placed} {placed : Placed} → type_in s ≡ 21 → Added room next end b number s p → p ≡ Some placed
      → Touched room next end b number s (Some (record { place = placed.place; name = record { key = placed.key; order = None } }))
  touched_put {p} {placed} kind a e =
      let at : PutAt room next end b number s (record { place = placed.place; name = record { key = placed.key; order = None } }) =
      record { is = a.is; orders = a.orders ∙ ap (λ (q : Option Placed). orders_put q s b.orders) e; within = (a.fits placed e).0; naming = (a.fits placed e).1 } in
      record {
        adds = λ touch some-order k. subst (PutAt room next end b number s) (some_same some-order) at;
        names = λ touch some-order other. absurd (other kind);
        passes = some_none;
      }

  pub touched_named : {n : Name} {at : ℕ} → names (type_in s) ≡ true → Lies room next end b → n ≡ named_in b s → at ≡ place_found n.order
      → Touched room next end b number s (Some (record { place = at; name = n }))
  touched_named {n} {at} kind lies named place_is =
      let is : NamedAt room next end b s (record { place = at; name = n }) =
      record { kind = kind; is = lies.is; name = named; place_is = place_is ∙ ap (λ (n : Name). place_found n.order) named } in
      record {
        adds = λ touch some-order k. absurd (true_false (sym (subst (λ (j : ℕ). names j ≡ true) k kind)));
        names = λ touch some-order other. subst (NamedAt room next end b s) (some_same some-order) is;
        passes = some_none;
      }

  pub touched_none : Told room next end b number s → Touched room next end b number s None
  touched_none told =
      record {
        adds = λ touch some-order k. some_none (sym some-order);
        names = λ touch some-order other. some_none (sym some-order);
        passes = λ _. told;
      }

  pub lying : Houses room next end b number s → Lies room next end b
  lying h = record { kept = h.ready.kept; is = h.is }

  -- an Add that is not put
  pub told_add : {p : Option Placed} → Added room next end b number s p → p ≡ None → Told room next end b number s
  told_add a e = record { is = a.is; orders = a.orders ∙ ap (λ (q : Option Placed). orders_put q s b.orders) e }

-- ---- turns that go on

-- from one point to another: whatever run is at the one is then at the other, with no more turns left
pub record Onward (s : List ℕ) (single : Bool) (room₀ window₀ answers₀ text₀ : List ℕ) (from : Point) (room window answers text : List ℕ) (to : Point) : Type 0 where
  pub all : (t : Task) (os : List Order) → Going t s single os room₀ window₀ answers₀ text₀ from → Going t s single os room window answers text to
  pub few : steps_left to ≤ steps_left from

module _ {t : Task} {s : List ℕ} {single : Bool} {os : List Order} {room window answers text : List ℕ} {before : Point} where
  pub came_over : {r : Point} {next : ℕ} {turn : Turn} {rest : PacketRest} → r ≡ between_of next turn rest
      → Over t s single os room window answers (between_of next turn rest) → length answers ≡ t.space → Came t s single os room window answers text before r
  came_over e over long =
      subst (Came t s single os room window answers text before) (sym e)
      (record { waits = λ hand h. some_none (sym h); fewer = λ hand h. some_none (sym h); over = λ _. over; long = long })

  pub came_waits : {r : Point} (touch : Touch) {here : PacketRest} {size next : ℕ} {turn : Turn} {rest : PacketRest} → r ≡ at_hand_of touch here size next turn rest
      → Waits t s single os room window answers text (at_hand_of touch here size next turn rest) (hand_of touch here size) → turns_left turn next rest < steps_left before
      → length answers ≡ t.space → Came t s single os room window answers text before r
  came_waits touch {here} {size} {next} {turn} {rest} e waits fewer long =
      subst (Came t s single os room window answers text before) (sym e)
      (record {
        waits = λ hand h. subst (Waits t s single os room window answers text (at_hand_of touch here size next turn rest)) (some_same h) waits;
        fewer = λ hand h. fewer;
        over = some_none;
        long = long;
      })

-- ---- a message at hand

module _ {t : Task} {s : List ℕ} {single : Bool} {os : List Order} {room window answers text : List ℕ} {point : Point} {hand : AtHand} {order : Order}
    (h : AtPlace t s single os room window answers text point hand order) {bytes : List ℕ} (is : bytes ≡ bytes_of text s hand) where
  settled_with : {room' : List ℕ} {o : Order} → Going t s single (set os hand.place o) room' window answers text point
      → Settled t s single os room' window answers text point hand (Stores o)
  settled_with g = record { last = λ last e. stores_moves e; going = g }

  -- an Add
  pub puts : type_in bytes ≡ 21 → Puts t s single os room window answers text point hand
  puts kind = h.waits.puts (ap type_in (sym is) ∙ kind)

  pub settled_put : type_in bytes ≡ 21 → {o : Order} → o ≡ order_of (fields_of 21 bytes) → Settled t s single os room window answers text point hand (Stores o)
  settled_put kind made =
      settled_with
      (subst (λ (x : Order). Going t s single (set os hand.place x) room window answers text point)
      (sym (made ∙ ap (λ (l : List ℕ). order_of (fields_of 21 l)) is)) (puts kind).going)

  -- a message that names an order
  module _ (other : type_in bytes ≡ 21 → ⊥) where
    pub named : Names t s single os room window answers text point hand
    named = h.waits.names (λ e. other (ap type_in is ∙ e))

    pub names_one : names (type_in bytes) ≡ true
    names_one = ap (λ (l : List ℕ). names (type_in l)) is ∙ named.kind

    pub counts : point.next - 1 ≡ named.number
    counts = omega (arith, named.behind)

    pub asks : Known room t.next t.end named.tables (point.next - 1) bytes hand.name order.shares order.price
    asks =
        let at : order ≡ get_or named.tables.orders (place_found (named_in named.tables (bytes_of text s hand)).order) blank =
        h.there ∙ ap₂ (λ (l : List Order) (k : ℕ). get_or l k blank) named.orders named.place_is in
        let known : Known room t.next t.end named.tables named.number (bytes_of text s hand) hand.name order.shares order.price =
        record { houses = named.houses; named = named.named; shares = ap (λ (o : Order). o.shares) at; price = ap (λ (o : Order). o.price) at } in
        subst (λ (k : ℕ). Known room t.next t.end named.tables k bytes hand.name order.shares order.price) (sym counts)
        (subst (λ (l : List ℕ). Known room t.next t.end named.tables named.number l hand.name order.shares order.price) (sym is) known)

    module _ {room' : List ℕ} {a : Act} (done : Changed room' t.next t.end named.tables (point.next - 1) bytes a) where
      changed : Changed room' t.next t.end named.tables named.number (bytes_of text s hand) a
      changed =
          subst (λ (l : List ℕ). Changed room' t.next t.end named.tables named.number l a) is
          (subst (λ (k : ℕ). Changed room' t.next t.end named.tables k bytes a) counts done)

      goes : {os' : List Order} {a' : Act} → a ≡ a' → os' ≡ orders_changed a' os → Going t s single os' room' window answers text point
      goes {os'} {a'} e orders =
          named.going
          (orders ∙ ap (orders_changed a') named.orders ∙ ap (λ (x : Act). orders_changed x named.tables.orders) (sym e) ∙ sym changed.orders)
          changed.is

      pub settled_replace : {place shares price : ℕ} → a ≡ act.Replace place shares price
          → Settled t s single os room' window answers text point hand (Stores (repriced order shares price))
      settled_replace {place} {shares} {price} e =
          let at : hand.place ≡ place = named.place_is ∙ sym (changed.replaces place shares price e) in
          settled_with
          (goes e
          (ap (λ (o : Order). set os hand.place (repriced o shares price)) h.there
          ∙ ap (λ (k : ℕ). set os k (repriced (get_or os k blank) shares price)) at))

      pub settled_remove : {place last : ℕ} → a ≡ act.Remove place last → Settled t s single os room' window answers text point hand (Moves last)
      settled_remove {place} {last} e =
          let out = changed.removes place last e in
          let at : hand.place ≡ place = named.place_is ∙ sym out.0 in
          record {
            last = λ l same. subst (λ (k : ℕ). k < 256) (moves_same same) out.1;
            going = goes e (ap (λ (k : ℕ). set (set os k (get_or os last blank)) last no_order) at);
          }

      pub settled_nothing : a ≡ act.Nothing → Settled t s single os room' window answers text point hand (Stores order)
      settled_nothing e = settled_with (goes e (ap (set os hand.place) h.there ∙ set-get_or os hand.place blank))

-- the table once it is stored
module _ {t : Task} {s : List ℕ} {single : Bool} {os : List Order} {room window answers text : List ℕ} {point : Point} {hand : AtHand} {r : Outcome}
    (d : Settled t s single os room window answers text point hand r) where
  pub stored_remove : {last : ℕ} {o : Order} → r ≡ Moves last → o ≡ no_order
      → Going t s single (set (set os hand.place (get_or os last blank)) last o) room window answers text point
  stored_remove {last} {o} e none =
      subst (λ (l : List Order). Going t s single l room window answers text point)
      (ap (λ (x : Outcome). stored_by x hand.place os) e ∙ ap (set (set os hand.place (get_or os last blank)) last) (sym none))
      d.going

  pub stored_put : {o : Order} → r ≡ Stores o → Going t s single (set os hand.place o) room window answers text point
  stored_put e = subst (λ (l : List Order). Going t s single l room window answers text point) (ap (λ (x : Outcome). stored_by x hand.place os) e) d.going
