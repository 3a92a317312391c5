-- From the writes of an arm to what it promises: the room holds the book behind the message, and the orders are the ones that are
-- left to write.
-- Assumes nothing.
use mathlib.Core.Path.{◌≡◌, refl, ap, ◌∙◌, sym}
use mathlib.Core.List.{List}
use Prim.Native.Nat.{ℕ, ◌+◌, ◌-◌, ◌<◌}
use native.Mathlib.Omega.{arith}
use lib.ListN.{get_or, set}
use Rattle.std.specs.Prelude.{Some, None}
use Rattle.message.specs.Row.{fields_of}
use Rattle.book.specs.Applying.{counted_apart, faulted, inside_of, order_of}
use Rattle.book.specs.Lookup.{back_of, front_of}
use Rattle.book.specs.Reasons.{reason_number}
use Rattle.book.specs.Tables.{Book, blank, holding_insides, holding_marks, holding_orders, holding_unlisted, no_order}
use Rattle.book.specs.declared.deciding.Effect.{Effect}
use Rattle.book.specs.declared.deciding.Reason.{Reason}
use Rattle.book.specs.declared.deciding.Effect.TheVariants as effect
use Rattle.book.specs.declared.tables.Inside.{Inside}
use Rattle.book.proofs.Carrying.{restored_is}
use Rattle.book.proofs.Steps.{Decided, apart_done, enter_done, fault_done, put_done, put_naming, record_done, remove_done, remove_within, renew_done, replace_done, replace_within}
use Rattle.book_room.proofs.Decides.{remove_at, replace_at}
use Rattle.book_room.specs.Arms.{Added, Changed, Told, after}
use Rattle.book_room.specs.Room.{Counts, Gone, Houses, Lies, room_of}
use Rattle.book_room.specs.declared.changing.Act.TheVariants as act

module _ {room : List ℕ} {next end : ℕ} {b : Book} {number : ℕ} {s : List ℕ} (h : Houses room next end b number s) where
  pub lies : Lies room next end b
  lies = record { kept = h.ready.kept; is = h.is }

  pub counts : Counts room next end b number
  counts = record { lies = lies; counted = h.ready.counted; apart = h.ready.apart; within = h.ready.within }

module _ (next end number : ℕ) {b : Book} {s : List ℕ} {key : ℕ} {topic : List ℕ} {e : Effect} (d : Decided b s key topic e) {now : List ℕ} where
  -- a fault, in any arm
  module _ {reason : Reason} {told : ℕ} (is : e ≡ effect.Fault reason) (named : told ≡ reason_number reason) (marked : now ≡ room_of next end (holding_marks b b.code (faulted b.faults number told))) where
    fault_room : now ≡ room_of next end (after b number s)
    fault_room = marked ∙ ap (λ (n : ℕ). room_of next end (holding_marks b b.code (faulted b.faults number n))) named ∙ ap (room_of next end) (fault_done d number is refl)

    fault_orders : (after b number s).orders ≡ b.orders
    fault_orders = sym (ap (λ (x : Book). x.orders) (fault_done d number is refl))

    pub added_fault : Added now next end b number s None
    added_fault = record { is = fault_room; orders = fault_orders; fits = λ placed e. cc }

    pub changed_fault : Changed now next end b number s act.Nothing
    changed_fault =
        record { is = fault_room; orders = fault_orders; replaces = λ place shares price e. cc; removes = λ place last e. cc }

    pub told_fault : Told now next end b number s
    told_fault = record { is = fault_room; orders = fault_orders }

  -- nothing is to be done
  module _ (same : b ≡ after b number s) (still : now ≡ room_of next end b) where
    pub changed_none : Changed now next end b number s act.Nothing
    changed_none =
        record {
          is = still ∙ ap (room_of next end) same;
          orders = sym (ap (λ (x : Book). x.orders) same);
          replaces = λ place shares price e. cc;
          removes = λ place last e. cc;
        }

    pub told_none : Told now next end b number s
    told_none = record { is = still ∙ ap (room_of next end) same; orders = sym (ap (λ (x : Book). x.orders) same) }

  pub added_put : {live : ℕ} → e ≡ effect.Put → live ≡ b.live → live < 256
      → now ≡ room_of next end (holding_orders b b.orders (set b.keys live key) (live + 1)) → Added now next end b number s (Some (record { place = live; key = key }))
  added_put {live} is at few written =
      let done = put_done d is number refl in
      record {
        is = written ∙ ap (λ (n : ℕ). room_of next end (holding_orders b b.orders (set b.keys n key) (n + 1))) at ∙ ap (room_of next end) done;
        orders = sym (ap (λ (x : Book). x.orders) done) ∙ ap (λ (n : ℕ). set b.orders n (order_of (fields_of 21 s))) (sym at);
        fits = λ placed same.
            let p : placed.place ≡ live = cc in
            let q : placed.key ≡ key = cc in
            (rw p few, rw q (put_naming d is));
      }

  pub changed_replace : {place shares price : ℕ} → e ≡ effect.Replace place shares price → now ≡ room_of next end b
      → Changed now next end b number s (act.Replace place shares price)
  changed_replace {place} {shares} {price} is still =
      let done = replace_done d number is in
      let few : place < 256 = omega (arith, replace_within d is, d.kept.live) in
      record {
        is = still ∙ ap (room_of next end) done;
        orders = sym (ap (λ (x : Book). x.orders) done) ∙ restored_is b.orders place shares price (omega (arith, d.kept.orders));
        replaces = λ p q r same. let e : p ≡ place = cc in e ∙ replace_at d is;
        removes = λ p last same. cc;
      }

  pub changed_remove : {place last : ℕ} → e ≡ effect.Remove place → Gone now next end b place last → Changed now next end b number s (act.Remove place last)
  changed_remove {place} {last} is gone =
      let done = remove_done d number is refl in
      let within = remove_within d is in
      let at : last ≡ b.live - 1 = gone.last in
      let less : last < 256 = omega (arith, d.kept.live) in
      record {
        is = gone.is ∙ ap (room_of next end) done;
        orders = sym (ap (λ (x : Book). x.orders) done) ∙ ap (λ (n : ℕ). set (set b.orders place (get_or b.orders n blank)) n no_order) (sym at);
        replaces = λ p q r same. cc;
        removes = λ p l same. let e : p ≡ place = cc in let f : l ≡ last = cc in (e ∙ remove_at d is, rw f less);
      }

  pub told_renew : {place : ℕ} {x : Inside} → e ≡ effect.Renew place → x ≡ inside_of (fields_of 26 s)
      → now ≡ room_of next end (holding_insides b (set b.insides place x) b.fronts b.backs b.held) → Told now next end b number s
  told_renew is made written =
      let done = renew_done d number is made in
      record { is = written ∙ ap (room_of next end) done; orders = sym (ap (λ (x : Book). x.orders) done) }

  pub told_enter : {held : ℕ} {x : Inside} → e ≡ effect.Enter → x ≡ inside_of (fields_of 26 s) → x.symbol ≡ topic → held ≡ b.held
      → now ≡ room_of next end (holding_insides b (set b.insides held x) (set b.fronts held (front_of x.symbol)) (set b.backs held (back_of x.symbol)) (held + 1))
      → Told now next end b number s
  told_enter {held} {x} is made about at written =
      let done = enter_done d number is made (ap front_of about) (ap back_of about) in
      record {
        is = written
            ∙ ap (λ (n : ℕ). room_of next end (holding_insides b (set b.insides n x) (set b.fronts n (front_of x.symbol)) (set b.backs n (back_of x.symbol)) (n + 1))) at
            ∙ ap (room_of next end) done;
        orders = sym (ap (λ (x : Book). x.orders) done);
      }

  pub told_apart : e ≡ effect.CountApart → now ≡ room_of next end (holding_unlisted b (counted_apart b.unlisted)) → Told now next end b number s
  told_apart is written =
      let done = apart_done d number is in
      record { is = written ∙ ap (room_of next end) done; orders = sym (ap (λ (x : Book). x.orders) done) }

  pub told_record : {code : ℕ} → e ≡ effect.Record code → now ≡ room_of next end (holding_marks b code b.faults) → Told now next end b number s
  told_record is written =
      let done = record_done d number is in
      record { is = written ∙ ap (room_of next end) done; orders = sym (ap (λ (x : Book). x.orders) done) }
