-- What a session means: the numbers next and end, the message that waits under each number, and the tables. What a host holds
-- holds each meaning in one way only.
-- Assumes nothing.
use Rattle.std.specs.Prelude.{◌≡◌, List, [], ◌∷◌, ℕ, ◌≤◌, length, get_or, take}
use Rattle.wire.specs.Number.{Bytes}
use Rattle.merge.specs.State as merge
use Rattle.merge.specs.State.{Call, Channel, Feed, applying, call_all, keeping, opened}
use Rattle.book.specs.Applying.{apply_of}
use Rattle.book.specs.Tables as book
use Rattle.book.specs.Tables.{Tables, fresh}
use Rattle.book.specs.declared.tables.Faults.{Faults}
use Rattle.book.specs.declared.tables.OpeningRule.{OpeningRule}
use Rattle.book_room.specs.Room.{insides_in, room_of, room_size, rule_by}
use Rattle.window_taking.specs.Keeping.{waiting_of, window_for}
use Rattle.window_taking.specs.Taking.{channel}
use Rattle.session.specs.declared.state.Session.{Session}

abbrev pub Meaning : Type 0
Meaning = merge.State (List ℕ) Tables

-- the overnight feed: what a message does to the tables under its number
abbrev pub feed : Feed (List ℕ) Tables
feed = record { apply = apply_of }

abbrev pub overnight : Channel (List ℕ) (List ℕ) Tables
overnight = channel feed

-- what a host holds: the session, and the room and the window that it lends with each call
pub record Held : Type 0 where
  pub session : Session
  pub room : List ℕ
  pub window : List ℕ

abbrev pub held : Session → List ℕ → List ℕ → Held
held session room window = record { session = session; room = room; window = window }

-- the sizes of what is lent
pub record Sized (room window : List ℕ) : Type 0 where
  pub numbers : length room ≡ room_size
  pub bytes : length window ≡ 32768

-- the one way in which a meaning is held: the orders in their places, next, end and the tables' numbers in the room, and each message
-- that waits at its place of the window
abbrev pub rep : Meaning → Held
rep x =
    record {
      session = record { orders = (book.rep x.tables).orders };
      room = room_of x.next x.end (book.rep x.tables);
      window = window_for x.waiting x.next;
    }

-- the numbers in the room
abbrev pub next_in : List ℕ → ℕ
next_in room = get_or room 0 0

abbrev pub end_in : List ℕ → ℕ
end_in room = get_or room 1 0

abbrev pub live_in : List ℕ → ℕ
live_in room = get_or room 2 0

abbrev pub code_in : List ℕ → ℕ
code_in room = get_or room 4 0

abbrev pub faults_in : List ℕ → Faults
faults_in room = record { number = get_or room 5 0; count = get_or room 6 0; reason = get_or room 7 0 }

-- the rule that the opening chose for types that are not in the table, and how many messages of such a type were counted apart
abbrev pub rule_in : List ℕ → OpeningRule
rule_in room = rule_by (get_or room 8 0)

abbrev pub apart_in : List ℕ → ℕ
apart_in room = get_or room 9 0

-- the meaning of what is held
abbrev pub tables_in : Session → List ℕ → Tables
tables_in s room =
    record {
      orders = take (live_in room) s.orders;
      insides = insides_in room;
      code = code_in room;
      faults = faults_in room;
      unlisted = record { rule = rule_in room; count = apart_in room };
    }

abbrev pub view : Held → Meaning
view h =
    record {
      next = next_in h.room;
      end = end_in h.room;
      waiting = waiting_of h.window (next_in h.room);
      tables = tables_in h.session h.room;
    }

-- byte strings
abbrev pub AllBytes : List (List ℕ) → Type 0
AllBytes [] = Unit {0}
AllBytes (s ∷ ss) = Bytes s × AllBytes ss

-- calls that hand in byte strings
abbrev pub CallsBytes : List (Call (List ℕ)) → Type 0
CallsBytes [] = Unit {0}
CallsBytes (keeping s ∷ cs) = Bytes s × CallsBytes cs
CallsBytes (applying c ∷ cs) = CallsBytes cs

-- the rule, over all that a host holds: an opening, at some 32-bit number and by a rule for types that are not in the table, and the
-- calls since, packets kept and messages applied, have given it
pub record Ruled (h : Held) : Type 0 where
  pub rule : OpeningRule
  pub number : ℕ
  pub small : number ≤ 4294967295
  pub calls : List (Call (List ℕ))
  pub bytes : CallsBytes calls
  pub given : h ≡ rep (call_all overnight (opened (fresh rule) number) calls)
