-- The engine between two turns: what a run is to give, where it is, and what a message at hand leaves to do in the order table.
-- Assumes nothing.
use Rattle.std.specs.Prelude.{◌≡◌, Bool, true, cond, List, ◌++◌, ℕ, ◌+◌, ◌-◌, ◌*◌, ◌≤◌, ◌<◌, eqb, length, get_or, set, Option, None, Some}
use Rattle.std.proofs.Math.Option.{some}
use Rattle.wire.specs.Number.{splice}
use Rattle.refusals.specs.Refusals.{refusal_or_none}
use Rattle.merge.specs.State.{Packet, apply_up_to, take_all}
use Rattle.merge.specs.Promise.{Inv}
use Rattle.message.specs.Layouts.{type_in}
use Rattle.message.specs.Row.{fields_of}
use Rattle.message.specs.Whole.{Whole}
use Rattle.book.specs.Applying.{Naming, names, order_of}
use Rattle.book.specs.Lookup.{place_found}
use Rattle.book.specs.Rule.{Sound}
use Rattle.book.specs.Tables as book
use Rattle.book.specs.Tables.{Book, Tables, blank, no_order}
use Rattle.book.specs.declared.tables.Order.{Order}
use Rattle.book_room.specs.Arms.{Told, after, named_in}
use Rattle.book_room.specs.Room.{Houses, room_of}
use Rattle.session_message.specs.AtNext.{Lies, due_of, message_at}
use Rattle.session_message.specs.declared.PacketRest.{PacketRest}
use Rattle.window_taking.specs.Ahead.{Ahead}
use Rattle.window_taking.specs.Turns.{answer_if, at_start, end_from, packets_from, place_after}
use Rattle.window_taking.specs.declared.burst.Turn.{Turn}
use Rattle.session.specs.Meaning.{Held, Meaning, end_in, feed, held, next_in, overnight, rep, view}
use Rattle.session.specs.Bursts.{row_with, rows_of}
use Rattle.session.specs.declared.advancing.AtHand.{AtHand}
use Rattle.session.specs.declared.advancing.Point.{Point}
use Rattle.session.specs.declared.settling.Outcome.{Outcome}
use Rattle.session.specs.declared.settling.Outcome.TheVariants.{Moves, Stores}
use Rattle.session.specs.declared.touching.Touch.{Touch}

-- what the meanings have that an opening, from some tables and at some number, and packets give, also between two messages
pub record Good (x : Meaning) : Type 0 where
  pub tables : Tables
  pub start : ℕ
  pub history : List (Packet (List ℕ))
  pub inv : Inv feed 256 tables start history x
  pub sound : Sound x.tables
  pub counted : x.tables.faults.count ≤ x.next
  pub apart : x.tables.unlisted.count ≤ x.next
  pub whole : (k : ℕ) (m : List ℕ) → x.waiting k ≡ some m → Whole m
  pub top : x.end ≤ 4294967296

-- ---- a run

-- what a run is to give, fixed before its first turn: the meaning and the answers behind it, where so many messages are applied before the
-- first packet; of how many packets; next and end before it,
-- which stay in the room until it is over; and how long the list of answers is
pub record Task : Type 0 where
  pub all : Meaning
  pub written : List ℕ
  pub count : ℕ
  pub next : ℕ
  pub end : ℕ
  pub space : ℕ

abbrev pub task_of : Held → List ℕ → Bool → ℕ → List ℕ → ℕ → Task
task_of h s single count answers due =
    record {
      all = take_all overnight (apply_up_to feed due (view h)) (packets_from single count 0 s);
      written = splice answers 0 (rows_of (apply_up_to feed due (view h)) (packets_from single count 0 s));
      count = count;
      next = next_in h.room;
      end = end_in h.room;
      space = length answers;
    }

-- a point at which no message is at hand, the first of them, and one at which a message touches an order
abbrev pub between_of : ℕ → Turn → PacketRest → Point
between_of next turn rest = record { at_hand = None; next = next; turn = turn; rest = rest }

abbrev pub begin_of : ℕ → ℕ → ℕ → ℕ → Point
begin_of next end count due = between_of next (at_start next end count) (record { left = 0; from = due })

abbrev pub hand_of : Touch → PacketRest → ℕ → AtHand
hand_of touch here size = record { place = touch.place; name = touch.name; here = here; size = size }

abbrev pub at_hand_of : Touch → PacketRest → ℕ → ℕ → Turn → PacketRest → Point
at_hand_of touch here size next turn rest = record { at_hand = Some (hand_of touch here size); next = next; turn = turn; rest = rest }

-- what is due is applied
abbrev pub finish : Meaning → PacketRest → Meaning
finish x rest = apply_up_to feed (due_of rest) x

-- the packets that are left
abbrev pub rest_of : Bool → List ℕ → Turn → List (List ℕ)
rest_of single s turn = packets_from single turn.left turn.at s

-- the answers that are to come, from the one at hand on
abbrev pub rows_from : Turn → Meaning → List (List ℕ) → List ℕ
rows_from turn z rest = answer_if turn.begun (row_with turn.before (refusal_or_none turn.refusal) z) ++ rows_of z rest

-- what is held now holds a meaning, and what is left to do from there gives what the run is to give
pub record Open (task : Task) (s : List ℕ) (single : Bool) (answers : List ℕ) (os : List Order) (numbers w : List ℕ) (next : ℕ) (turn : Turn) (rest : PacketRest) : Type 0 where
  pub state : Meaning
  pub good : Good state
  pub orders : os ≡ (book.rep state.tables).orders
  pub housed : numbers ≡ room_of task.next task.end (book.rep state.tables)
  pub ahead : Ahead s rest.left rest.from state.next w state.waiting
  pub long : length w ≡ 32768
  pub at : next ≡ state.next
  pub end : turn.end ≡ state.end
  pub low : turn.before ≤ next
  pub level : (rest.left ≡ 0 → ⊥) → next + rest.left ≡ turn.end
  pub within : turn.at ≤ length s
  pub left : turn.left ≤ task.count
  pub taken : length (packets_from single task.count 0 s) + turn.left ≡ task.count + length (rest_of single s turn)
  pub stop : end_from single task.count 0 s ≡ end_from single turn.left turn.at s
  pub session : task.all ≡ take_all overnight (finish state rest) (rest_of single s turn)
  pub rows : task.written ≡ splice answers turn.place (rows_from turn (finish state rest) (rest_of single s turn))
  pub room : place_after turn + 4 * turn.left ≤ length answers
  pub big : length answers ≤ 18446744073709551615

-- a run is at a point: of the point it reads next, turn and rest
pub record Going (task : Task) (s : List ℕ) (single : Bool) (os : List Order) (room window answers text : List ℕ) (point : Point) : Type 0 where
  pub now : Open task s single answers os room window point.next point.turn point.rest
  pub wide : length text ≡ 128
  pub long : length answers ≡ task.space

-- the turns that are left: the messages that are due, none where next is end, and as many as can be due behind each packet that follows
abbrev pub turns_left : Turn → ℕ → PacketRest → ℕ
turns_left turn next rest = turn.left * 257 + cond (eqb next turn.end) 0 (due_of rest)

abbrev pub steps_left : Point → ℕ
steps_left point = turns_left point.turn point.next point.rest

-- ---- a message at hand that touches an order

abbrev pub bytes_of : List ℕ → List ℕ → AtHand → List ℕ
bytes_of text s hand = message_at text s hand.here hand.size

-- of an Add all is done but its order put at the place
pub record Puts (task : Task) (s : List ℕ) (single : Bool) (os : List Order) (room window answers text : List ℕ) (point : Point) (hand : AtHand) : Type 0 where
  pub naming : Naming 55 (bytes_of text s hand) hand.name.key
  pub going : Going task s single (set os hand.place (order_of (fields_of 21 (bytes_of text s hand)))) room window answers text point

-- of a message that names an order nothing is done: the room holds the tables before it
pub record Names (task : Task) (s : List ℕ) (single : Bool) (os : List Order) (room window answers text : List ℕ) (point : Point) (hand : AtHand) : Type 0 where
  pub tables : Book
  pub number : ℕ
  pub behind : point.next ≡ number + 1
  pub kind : names (type_in (bytes_of text s hand)) ≡ true
  pub houses : Houses room task.next task.end tables number (bytes_of text s hand)
  pub orders : os ≡ tables.orders
  pub named : hand.name ≡ named_in tables (bytes_of text s hand)
  pub place_is : hand.place ≡ place_found (named_in tables (bytes_of text s hand)).order
  pub going : {os' : List Order} {room' : List ℕ} → os' ≡ (after tables number (bytes_of text s hand)).orders
      → room' ≡ room_of task.next task.end (after tables number (bytes_of text s hand))
      → Going task s single os' room' window answers text point

pub record Waits (task : Task) (s : List ℕ) (single : Bool) (os : List Order) (room window answers text : List ℕ) (point : Point) (hand : AtHand) : Type 0 where
  pub whole : Whole (bytes_of text s hand)
  pub lies : Lies s hand.here hand.size
  pub cut : hand.size ≤ length text
  pub wide : length text ≡ 128
  pub many : length os ≡ 256
  pub within : hand.place < 256
  pub puts : type_in (bytes_of text s hand) ≡ 21 → Puts task s single os room window answers text point hand
  pub names : (type_in (bytes_of text s hand) ≡ 21 → ⊥) → Names task s single os room window answers text point hand

-- ---- nothing is left to do

pub record Over (task : Task) (s : List ℕ) (single : Bool) (os : List Order) (room window list : List ℕ) (point : Point) : Type 0 where
  pub held : held (record { orders = os }) room window ≡ rep task.all
  pub answers : list ≡ task.written
  pub left : point.turn.left ≤ task.count
  pub taken : task.count - point.turn.left ≡ length (packets_from single task.count 0 s)
  pub at : point.turn.at ≡ end_from single task.count 0 s

-- ---- the steps

-- from a point on, to the next message that touches an order or to the end
pub record Came (task : Task) (s : List ℕ) (single : Bool) (os : List Order) (room window answers text : List ℕ) (before r : Point) : Type 0 where
  pub waits : (hand : AtHand) → r.at_hand ≡ Some hand → Waits task s single os room window answers text r hand
  pub fewer : (hand : AtHand) → r.at_hand ≡ Some hand → steps_left r < steps_left before
  pub over : r.at_hand ≡ None → Over task s single os room window answers r
  pub long : length answers ≡ task.space

-- a message is at hand, and the record at its place
pub record AtPlace (task : Task) (s : List ℕ) (single : Bool) (os : List Order) (room window answers text : List ℕ) (point : Point) (hand : AtHand) (order : Order) : Type 0 where
  pub waits : Waits task s single os room window answers text point hand
  pub there : order ≡ get_or os hand.place blank

-- the table once an outcome is stored at a place
abbrev pub stored_by : Outcome → ℕ → List Order → List Order
stored_by (Moves last) place os = set (set os place (get_or os last blank)) last no_order
stored_by (Stores order) place os = set os place order

pub record Settled (task : Task) (s : List ℕ) (single : Bool) (os : List Order) (room window answers text : List ℕ) (point : Point) (hand : AtHand) (r : Outcome) : Type 0 where
  pub last : (last : ℕ) → r ≡ Moves last → last < 256
  pub going : Going task s single (stored_by r hand.place os) room window answers text point

-- ---- one message, by whether it touches an order

-- an Add that is put: the room holds the tables behind it, which have its order at the place
pub record PutAt (room : List ℕ) (next end : ℕ) (b : Book) (number : ℕ) (s : List ℕ) (r : Touch) : Type 0 where
  pub is : room ≡ room_of next end (after b number s)
  pub orders : (after b number s).orders ≡ set b.orders r.place (order_of (fields_of 21 s))
  pub within : r.place < 256
  pub naming : Naming 55 s r.name.key

-- one that names an order: nothing is done
pub record NamedAt (room : List ℕ) (next end : ℕ) (b : Book) (s : List ℕ) (r : Touch) : Type 0 where
  pub kind : names (type_in s) ≡ true
  pub is : room ≡ room_of next end b
  pub name : r.name ≡ named_in b s
  pub place_is : r.place ≡ place_found (named_in b s).order

pub record Touched (room : List ℕ) (next end : ℕ) (b : Book) (number : ℕ) (s : List ℕ) (r : Option Touch) : Type 0 where
  pub adds : (touch : Touch) → r ≡ Some touch → type_in s ≡ 21 → PutAt room next end b number s touch
  pub names : (touch : Touch) → r ≡ Some touch → (type_in s ≡ 21 → ⊥) → NamedAt room next end b s touch
  pub passes : r ≡ None → Told room next end b number s
