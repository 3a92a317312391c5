-- One message, from what was decided to the book behind it: the facts that each arm of the code needs, over plain values.
-- Assumes nothing.
use mathlib.Core.Path.{◌≡◌, refl, ap, ap₂, ◌∙◌, sym}
use mathlib.Core.Bool.{true}
use mathlib.Core.List.{List, [], ◌∷◌, ◌++◌}
use Prim.Native.Nat.{ℕ, zero, suc, ◌+◌, ◌-◌, ◌≤◌, ◌<◌}
use native.Mathlib.Omega.{arith}
use lib.Dec.{lit<}
use lib.ListN.{length, get_or, take, set, replicate, length-take, length-map}
use Rattle.std.specs.Prelude.{None, Option, Some}
use Rattle.book.specs.declared.deciding.Reason.{Reason}
use Rattle.book.specs.Reasons.{reason_number}
use Rattle.wire.specs.Number.{part}
use Rattle.fields.specs.Id.{number_of}
use Rattle.message.specs.Layouts.{layout_of, type_in}
use Rattle.message.specs.Row.{fields_of, message_of, type_of}
use Rattle.book.specs.Lookup.{is_at, place_found, front_of, back_of, key_at, symbol_at}
use Rattle.book.specs.Tables.{Book, Tables, blank, no_order, places, ids_of, fronts_of, backs_of, holding_orders, holding_insides, holding_marks, holding_unlisted, rep, view}
use Rattle.message.specs.Whole.{Whole}
use Rattle.book.specs.Applying.{Seen, Naming, message_in, topic_of, there_of, seen_of, effect_in, carried, apply_of, order_of, inside_of, faulted, counted_apart}
use Rattle.book.specs.Rule.{Kept}
use Rattle.message.specs.declared.kinds.Message.{Message}
use Rattle.book.specs.declared.tables.Order.{Order}
use Rattle.book.specs.declared.tables.Inside.{Inside}
use Rattle.book.specs.declared.tables.Faults.{Faults}
use Rattle.book.specs.declared.deciding.Effect.{Effect}
use Rattle.book.specs.declared.deciding.Effect.TheVariants.{Put, Replace, Remove, Renew, Enter, Record, Unchanged, Fault, CountApart}
use Rattle.book.proofs.Carrying.{live_is, held-is, orders_are, keys_are, fronts_are, backs_are, restored, restored_is, put_rep, enter_rep, replace_rep, remove_rep, renew_rep, marked_rep, apart_rep}
use Rattle.book.proofs.Holding.{take_places}
use Rattle.book.proofs.Told.{Change, tells, AtOrder}
use Rattle.book.proofs.Types.{add_id, add_naming, top_room, type_kept, told_topic}
use Rattle.book.proofs.Under.{at_inside, at_order, key_below, renewed}

-- what the code knows once the effect is decided
pub record Decided (b : Book) (s : List ℕ) (key : ℕ) (topic : List ℕ) (e : Effect) : Type 0 where
  pub kept : Kept b
  pub whole : Whole s
  pub value : key ≡ number_of (message_in s).id
  pub about : topic ≡ topic_of (message_in s)
  pub effect : e ≡ effect_in (view b) s

-- ---- what is seen

-- the live keys are those of the live orders; so it is with the insides
pub front_keys : (n : ℕ) {array : List ℕ} {live : ℕ} (xs : List ℕ) → array ≡ places n 0 xs → live ≡ length xs → take live array ≡ xs
front_keys n xs e l = ap₂ take l e ∙ take_places n 0 xs

-- a place that holds nothing has no shares and no price, like what is read behind the end
module _ (f : Order → ℕ) (none : f no_order ≡ f blank) where
  unused : (k i : ℕ) → f (get_or (replicate k no_order) i blank) ≡ f blank
  unused zero i = refl
  unused (suc k) zero = none
  unused (suc k) (suc i) = unused k i

  past_from : (xs : List Order) (k i : ℕ) → f (get_or (xs ++ replicate k no_order) i blank) ≡ f (get_or xs i blank)
  past_from [] k i = unused k i
  past_from (x ∷ xs) k zero = refl
  past_from (x ∷ xs) k (suc i) = past_from xs k i

  past : (xs : List Order) (i : ℕ) → f (get_or (places 256 no_order xs) i blank) ≡ f (get_or xs i blank)
  unfolding places
  past xs i = past_from xs (256 - length xs) i

found_any : (f : Option ℕ) (n : ℕ) → 0 < n → (is_at f ≡ true → place_found f < n) → place_found f < n
found_any (Some place) n h g = g refl
found_any None n h g = h

module _ (b : Book) (s : List ℕ) (kept : Kept b) {key : ℕ} {topic : List ℕ}
    (value : key ≡ number_of (message_in s).id) (about : topic ≡ topic_of (message_in s))
    {order inside : Option ℕ} (found : order ≡ key_at key (take b.live b.keys))
    (looked : inside ≡ symbol_at topic (take b.held b.fronts) (take b.held b.backs))
    {at : ℕ} (place_is : at ≡ place_found order) where
  abbrev t : Tables
  t = view b

  order_seen_lem : order ≡ key_at (number_of (message_in s).id) (ids_of t.orders)
  order_seen_lem =
      found
      ∙ ap₂ key_at value (front_keys 256 (ids_of t.orders) (keys_are b kept.same) (live_is b kept.same ∙ sym (length-map t.orders (λ o. o.id))))

  inside_seen : inside ≡ symbol_at (topic_of (message_in s)) (fronts_of t.insides) (backs_of t.insides)
  inside_seen =
      let fronts : take b.held b.fronts ≡ fronts_of t.insides = front_keys 64 (fronts_of t.insides) (fronts_are b kept.same) (held-is b kept.same ∙ sym (length-map t.insides (λ i. front_of i.symbol))) in
      let backs : take b.held b.backs ≡ backs_of t.insides = front_keys 64 (backs_of t.insides) (backs_are b kept.same) (held-is b kept.same ∙ sym (length-map t.insides (λ i. back_of i.symbol))) in
      looked ∙ (λ i. symbol_at (about i) (fronts i) (backs i))

  there_seen : (f : Order → ℕ) → f no_order ≡ f blank → f (get_or b.orders at blank) ≡ f (there_of t.orders (key_at (number_of (message_in s).id) (ids_of t.orders)))
  there_seen f none =
      ap (λ (l : List Order). f (get_or l at blank)) (orders_are b kept.same)
      ∙ past f none t.orders at
      ∙ ap (λ (k : ℕ). f (get_or t.orders k blank)) (place_is ∙ ap place_found order_seen_lem)

  pub seen-is : ◌≡◌ {A = Seen} (record { live = b.live; order = order; shares = (get_or b.orders at blank).shares; price = (get_or b.orders at blank).price; held = b.held; inside = inside; rule = b.unlisted.rule })
      (seen_of t (message_in s))
  unfolding seen_of
  seen-is i =
      record { live = live_is b kept.same i; order = order_seen_lem i; shares = there_seen (λ o. o.shares) refl i; price = there_seen (λ o. o.price) refl i; held = held-is b kept.same i; inside = inside_seen i; rule = b.unlisted.rule }

-- the look-up's place is one of the book's
pub found_within : (keys : List ℕ) (live key : ℕ) {order : Option ℕ} {at : ℕ} → live ≤ 256 → order ≡ key_at key (take live keys) → at ≡ place_found order → at < 256
found_within keys live key fits found place_is =
    let xs = take live keys in
    let few : length xs ≤ live = simp length-take (omega arith) in
    let h : place_found (key_at key xs) < 256 = found_any (key_at key xs) 256 (lit< tt) (λ e. let r = key_below key xs e in omega arith) in
    rw (place_is, found) h

-- ---- what follows from the effect

module _ {b : Book} {s : List ℕ} {key : ℕ} {topic : List ℕ} {e : Effect} (d : Decided b s key topic e) where
  abbrev m : Message
  m = message_in s

  tell : {e' : Effect} → e ≡ e' → Change (seen_of (view b) m) m e'
  tell h = (tells (seen_of (view b) m) m (sym d.effect ∙ h)).1

  done : (number : ℕ) {e' : Effect} → e ≡ e' → rep (carried (view b) number m e') ≡ rep (apply_of (view b) number s)
  unfolding apply_of
  done number h = ap (λ (x : Effect). rep (carried (view b) number m x)) (sym h ∙ d.effect)

  of_type : {k : ℕ} → type_of m ≡ k → type_in s ≡ k
  of_type h = sym (type_kept (type_in s) s) ∙ h

  live_seen : (seen_of (view b) m).live ≡ b.live
  unfolding seen_of
  live_seen = sym (live_is b d.kept.same)

  held-seen : (seen_of (view b) m).held ≡ b.held
  unfolding seen_of
  held-seen = sym (held-is b d.kept.same)

  -- the place of an order that the message names
  at_live : {place : ℕ} → AtOrder (seen_of (view b) m) place → place < b.live
  at_live a = rw (live_is b d.kept.same) (at_order (view b) m a).0

  -- Put
  module _ (h : e ≡ Put) where
    pub put_few : b.live < 256
    put_few = rw live_seen at (tell h).few

    pub put_naming : Naming 55 s key
    put_naming =
        let t = of_type (tell h).type in
        add_naming s t d.whole (d.value ∙ sym (add_id s t))

    pub put_done : (number : ℕ) {made : Order} → made ≡ order_of (fields_of 21 s)
        → ◌≡◌ {A = Book} (holding_orders b (set b.orders b.live made) (set b.keys b.live key) (b.live + 1))
        (rep (apply_of (view b) number s))
    unfolding order_of fields_of message_of layout_of
    put_done number is =
        let t : type_in s ≡ 21 = of_type (tell h).type in
        let o : _ ≡ order_of m = is ∙ ap (λ (k : ℕ). order_of (fields_of k s)) (sym t) in
        let first : number_of (part s 7 14) ≡ (order_of (fields_of 21 s)).id = refl in
        let k : key ≡ (order_of m).id = put_naming.value ∙ first ∙ ap (λ (j : ℕ). (order_of (fields_of j s)).id) (sym t) in
        (λ i. holding_orders b (set b.orders b.live (o i)) (set b.keys b.live (k i)) (b.live + 1))
        ∙ put_rep b d.kept.same (order_of m) put_few
        ∙ done number h

  pub replace_within : {place shares price : ℕ} → e ≡ Replace place shares price → place < b.live
  replace_within h = at_live (tell h).0

  pub replace_done : (number : ℕ) {place shares price : ℕ} → e ≡ Replace place shares price
      → ◌≡◌ {A = Book} (holding_orders b (restored b.orders place shares price) b.keys b.live)
      (rep (apply_of (view b) number s))
  replace_done number {place} {shares} {price} h =
      let small : place < length b.orders = omega (arith, replace_within h, d.kept.live, d.kept.orders) in
      ap
      (λ (l : List Order). holding_orders b l b.keys b.live)
      (restored_is b.orders place shares price small)
      ∙ replace_rep b d.kept.same place shares price (replace_within h)
      ∙ done number h

  pub remove_within : {place : ℕ} → e ≡ Remove place → place < b.live
  remove_within h = at_live (tell h)

  pub remove_done : (number : ℕ) {place : ℕ} {none : Order} → e ≡ Remove place → none ≡ no_order
      → ◌≡◌ {A = Book} (holding_orders b (set (set b.orders place (get_or b.orders (b.live - 1) blank)) (b.live - 1) none) (set (set b.keys place (get_or b.keys (b.live - 1) 0)) (b.live - 1) 0) (b.live - 1))
      (rep (apply_of (view b) number s))
  remove_done number h is = rw is (remove_rep b d.kept.same _ (remove_within h) d.kept.live ∙ done number h)

  -- Renew and Enter
  told_is : type_of m ≡ 26 → {x : Inside} → x ≡ inside_of (fields_of 26 s) → inside_of m ≡ x
  told_is h is = ap (λ (k : ℕ). inside_of (fields_of k s)) (of_type h) ∙ sym is

  topic_told : type_of m ≡ 26 → (inside_of m).symbol ≡ topic
  topic_told h = told_topic s h ∙ sym d.about

  pub renew_room : {place : ℕ} → e ≡ Renew place → 46 ≤ length s
  renew_room h = top_room s (of_type (tell h).type) d.whole

  pub renew_within : {place : ℕ} → e ≡ Renew place → place < b.held
  renew_within h = rw (held-is b d.kept.same) (at_inside (view b) m (tell h)).0

  pub renew_done : (number : ℕ) {place : ℕ} {x : Inside} → e ≡ Renew place → x ≡ inside_of (fields_of 26 s)
      → ◌≡◌ {A = Book} (holding_insides b (set b.insides place x) b.fronts b.backs b.held)
      (rep (apply_of (view b) number s))
  renew_done number {place} h is =
      ap
      (λ (y : Inside). holding_insides b (set b.insides place y) b.fronts b.backs b.held)
      (sym (told_is (tell h).type is))
      ∙ renew_rep b d.kept.same place (inside_of m) (renew_within h) (renewed (view b) s (tell h)).0 (renewed (view b) s (tell h)).1
      ∙ done number h

  pub enter_room : e ≡ Enter → 46 ≤ length s
  enter_room h = top_room s (of_type (tell h).type) d.whole

  pub enter_few : e ≡ Enter → b.held < 64
  enter_few h = rw held-seen at (tell h).few

  pub enter_done : (number : ℕ) {first last : ℕ} {x : Inside} → e ≡ Enter → x ≡ inside_of (fields_of 26 s) → first ≡ front_of topic → last ≡ back_of topic
      → ◌≡◌ {A = Book} (holding_insides b (set b.insides b.held x) (set b.fronts b.held first) (set b.backs b.held last) (b.held + 1))
      (rep (apply_of (view b) number s))
  enter_done number h is f l =
      let x = told_is (tell h).type is in
      let same = topic_told (tell h).type in
      (λ i. holding_insides b (set b.insides b.held (sym x i)) (set b.fronts b.held ((f ∙ ap front_of (sym same)) i)) (set b.backs b.held ((l ∙ ap back_of (sym same)) i)) (b.held + 1))
      ∙ enter_rep b d.kept.same (inside_of m) (enter_few h)
      ∙ done number h

  -- Record, Unchanged, Fault and CountApart
  pub record_done : (number : ℕ) {code : ℕ} → e ≡ Record code
      → ◌≡◌ {A = Book} (holding_marks b code b.faults)
      (rep (apply_of (view b) number s))
  record_done number h = marked_rep b d.kept.same _ b.faults ∙ done number h

  pub unchanged_done : (number : ℕ) → e ≡ Unchanged → b ≡ rep (apply_of (view b) number s)
  unchanged_done number h = d.kept.same ∙ done number h

  pub fault_done : (number : ℕ) {reason : Reason} {more : Faults} → e ≡ Fault reason → more ≡ faulted b.faults number (reason_number reason)
      → ◌≡◌ {A = Book} (holding_marks b b.code more)
      (rep (apply_of (view b) number s))
  fault_done number h is = rw is (marked_rep b d.kept.same b.code _ ∙ done number h)

  pub apart_done : (number : ℕ) → e ≡ CountApart → ◌≡◌ {A = Book} (holding_unlisted b (counted_apart b.unlisted)) (rep (apply_of (view b) number s))
  apart_done number h = apart_rep b d.kept.same (counted_apart b.unlisted) ∙ done number h
