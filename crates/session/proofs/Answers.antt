-- What the rule gives to the questions: the book in the room, and the tables that a question is answered from.
-- Assumes nothing.
use mathlib.Core.Path.{◌≡◌, ap, ◌∙◌, sym, subst}
use mathlib.Core.List.{List}
use Prim.Native.Nat.{ℕ, ◌≤◌, ◌<◌}
use native.Mathlib.Omega.{arith}
use lib.ListN.{length, get_or, take}
use lib.Seq.{length-take-le}
use Rattle.std.specs.Prelude.{Option, Some, None, Result, Ok, Err}
use Rattle.refusals.specs.declared.Refusal.{Refusal}
use Rattle.refusals.specs.declared.Refusal.TheVariants.{NotThere}
use Rattle.fields.specs.Id.{id_answer}
use Rattle.book.specs.Asking.{inside_for, order_asked}
use Rattle.book.specs.Lookup.{key_at}
use Rattle.book.specs.Tables as book
use Rattle.book.specs.Tables.{blank, Book, Tables, gone}
use Rattle.book.specs.declared.tables.Inside.{Inside}
use Rattle.book.specs.declared.tables.Order.{Order}
use Rattle.book.proofs.Answers.{order_known, order_none, order_refused, order_within}
use Rattle.book.proofs.Keeping as keeping
use Rattle.book_room.specs.Room.{Lies, inside_at, insides_in}
use Rattle.book_room.proofs.Insides as insides
use Rattle.book_room.proofs.Lying.{filled, held_at, live_at, long}
use Rattle.session.specs.Meaning.{Held, Meaning, Ruled, Sized, live_in, tables_in}
use Rattle.session.proofs.States.{kept, neat, stands, tables_rep}

module _ {s : Held} (rule : Ruled s) where
  abbrev state : Meaning
  state = (stands rule).state

  abbrev pub tabled : Book
  tabled = book.rep state.tables

  pub lies : Lies s.room state.next state.end tabled
  lies = record { kept = kept (stands rule).good; is = ap (λ (h : Held). h.room) (stands rule).same }

  pub some_book : (next end : ℕ) × (b : Book) × Lies s.room next end b
  some_book = (state.next, state.end, tabled, lies)

  pub orders_are : s.session.orders ≡ tabled.orders
  orders_are = ap (λ (h : Held). h.session.orders) (stands rule).same

  pub orders_long : length s.session.orders ≡ 256
  orders_long = ap length orders_are ∙ lies.kept.orders

  pub live_few : live_in s.room ≤ 256
  live_few = omega (arith, live_at (filled lies), lies.kept.live)

  -- the live orders, lent as a slice
  pub orders_few : length (take (live_in s.room) s.session.orders) ≤ 256
  orders_few = rw (length-take-le (live_in s.room) s.session.orders (omega (arith, live_few, orders_long))) live_few

  -- what is lent has its size
  pub sized : Sized s.room s.window
  sized = record { numbers = long (filled lies); bytes = ap (λ (h : Held). length h.window) (stands rule).same ∙ (neat (stands rule).good).size }

  pub held_few : get_or s.room 3 0 ≤ 64
  held_few = omega (arith, held_at (filled lies), lies.kept.held)

  tables_are : tables_in s.session s.room ≡ book.view tabled
  tables_are = ap (λ (h : Held). tables_in h.session h.room) (stands rule).same ∙ tables_rep (stands rule).good ∙ sym (keeping.view-rep state.tables)

  pub order_asked_lem : (id : List ℕ) {r : Result Order Refusal} → r ≡ order_asked (book.view tabled) id → r ≡ order_asked (tables_in s.session s.room) id
  order_asked_lem id e = e ∙ ap (λ (t : Tables). order_asked t id) (sym tables_are)

  pub inside_asked_lem : (symbol : List ℕ) {r : Result Inside Refusal} → r ≡ inside_for (book.view tabled).insides symbol → r ≡ inside_for (insides_in s.room) symbol
  inside_asked_lem symbol e = e ∙ ap (λ (t : Tables). inside_for t.insides symbol) (sym tables_are)

  -- an order by its id: what `value` answers, and what is found in the room
  module _ (id : List ℕ) {answer : Result ℕ Refusal} (asked : answer ≡ id_answer id) where
    pub bad_asked : {refusal : Refusal} → answer ≡ Err refusal → Err refusal ≡ order_asked (tables_in s.session s.room) id
    bad_asked e = order_asked_lem id (order_refused tabled lies.kept id asked e)

    module _ {key : ℕ} (value : answer ≡ Ok key) {found : Option ℕ} (sought : (next end : ℕ) (b : Book) → Lies s.room next end b → found ≡ key_at key (take b.live b.keys)) where
      there : found ≡ key_at key (take tabled.live tabled.keys)
      there = sought state.next state.end tabled lies

      pub none_asked : found ≡ None → Err NotThere ≡ order_asked (tables_in s.session s.room) id
      none_asked e = order_asked_lem id (order_none tabled lies.kept id asked value there e)

      module _ {place : ℕ} (at : found ≡ Some place) where
        pub order_few : place < 256
        order_few = omega (arith, order_within tabled lies.kept id asked value there at, lies.kept.live)

        pub known_asked : ◌≡◌ {A = Result Order Refusal} (Ok (get_or s.session.orders place blank)) (order_asked (tables_in s.session s.room) id)
        known_asked =
            order_asked_lem id
            (ap (λ (l : List Order). Ok (get_or l place blank)) orders_are ∙ order_known tabled lies.kept id asked value there at)

  -- the inside at a place that is held
  module _ {place : ℕ} (within : place < tabled.held) where
    pub place_few : place < 64
    place_few = omega (arith, lies.kept.held)

    pub inside_there : inside_at s.room place ≡ get_or tabled.insides place gone
    inside_there = ap (λ (l : List ℕ). inside_at l place) lies.is ∙ insides.inside_at_lem state.next state.end state.tables (stands rule).good.sound place within

    pub flag_small : (inside_at s.room place).unsolicited < 256
    flag_small = subst (λ (l : List ℕ). (inside_at l place).unsolicited < 256) (sym lies.is) (insides.flag_small state.next state.end state.tables (stands rule).good.sound place within)
