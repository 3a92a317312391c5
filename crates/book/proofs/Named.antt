-- What a message leaves under the id and the symbol that it names, and under every other: document 01, "Applying a message", by name.
-- Assumes nothing.
use mathlib.Core.Path.{◌≡◌, refl, ap, ◌∙◌, sym, subst}
use mathlib.Core.Logic.{◌≢◌, ◌⊎◌, ⊎_elim}
use mathlib.Core.Bool.{Bool, true, false, cond, ◌&&◌}
use mathlib.Core.List.{List}
use Prim.Native.Nat.{ℕ, ◌-◌}
use borrow.Author.Tests.{eq-eqb, ne_eqb, eqb-true, not-false}
use lib.Dec.{eqb, leb}
use lib.ListN.{length, get_or}
use Rattle.std.specs.Prelude.{None, Option, Some}
use Rattle.fields.specs.Id.{number_of}
use Rattle.wire.specs.Layout.{number_in}
use Rattle.wire.specs.Number.{Bytes}
use Rattle.message.specs.Row.{type_of, row_of}
use Rattle.message.specs.declared.kinds.Message.{Message}
use Rattle.book.specs.Lookup.{is_at, same_symbol}
use Rattle.book.specs.Tables.{Tables, blank, gone}
use Rattle.book.specs.Applying.{Seen, message_in, topic_of, there_of, order_seen, seen_of, names, is_listed, effect_in, execution_of, change_of, carried, apply_of, order_of, inside_of, repriced}
use Rattle.book.specs.Named.{first_that, is_there, has_id, order_under, has_symbol, inside_under, is_fault, order_updated, order_executed, order_after, inside_after}
use Rattle.book.specs.Rule.{Sound}
use Rattle.book.specs.declared.tables.Order.{Order}
use Rattle.book.specs.declared.tables.Inside.{Inside}
use Rattle.book.specs.declared.deciding.Effect.{Effect}
use Rattle.book.specs.declared.deciding.Effect.TheVariants.{Put, Replace, Remove, Renew, Enter, Record, Unchanged, Fault, CountApart}
use Rattle.book.proofs.Keeping.{absent_inside, absent_order}
use Rattle.book.proofs.Keyed.{leave_other, leave_same, nowhere, put_other, put_same, set_other, set_same, there}
use Rattle.book.proofs.Symbols.{alike, alike_to, bytes_same, other_bytes}
use Rattle.book.proofs.Told.{AtOrder, Change, Good, Held, by_faults, right, tells, told, unfaulted}
use Rattle.book.proofs.Types.{made_id, no, pick, split, told_topic}
use Rattle.book.proofs.Under.{at_inside, at_order, one_inside, one_order}

-- ---- an effect, by name

-- the order, and the inside, that the message names, behind an effect
abbrev pub order_behind : Message → Effect → Option Order → Option Order
order_behind m Put old = Some (order_of m)
order_behind m (Replace place shares price) old = order_updated shares price old
order_behind m (Remove place) old = None
order_behind m (Renew place) old = old
order_behind m Enter old = old
order_behind m (Record code) old = old
order_behind m Unchanged old = old
order_behind m (Fault reason) old = old
order_behind m CountApart old = old

abbrev pub inside_behind : Message → Effect → Option Inside → Option Inside
inside_behind m Put old = old
inside_behind m (Replace place shares price) old = old
inside_behind m (Remove place) old = old
inside_behind m (Renew place) old = Some (inside_of m)
inside_behind m Enter old = Some (inside_of m)
inside_behind m (Record code) old = old
inside_behind m Unchanged old = old
inside_behind m (Fault reason) old = old
inside_behind m CountApart old = old

-- what an execution makes of an order that is there
execution-is : (n : ℕ) (o : Order) (b : Bool) → eqb (o.shares - n) 0 ≡ b → {old : Option Order} → old ≡ Some o → order_executed n old ≡ cond b None (Some (repriced o (o.shares - n) o.price))
execution-is n o b z e = ap (order_executed n) e ∙ ap (λ (c : Bool). cond c None (Some (repriced o (o.shares - n) o.price))) z

module _ (t : Tables) (sound : Sound t) (number : ℕ) (s : List ℕ) where
  abbrev m : Message
  m = message_in s

  abbrev seen : Seen
  seen = seen_of t m

  -- the value of the id, and the symbol, that the message names
  abbrev key : ℕ
  key = number_of m.id

  abbrev topic : List ℕ
  topic = topic_of m

  order_there : {place : ℕ} → AtOrder seen place → order_under t key ≡ Some (get_or t.orders place blank)
  unfolding order_under
  order_there {place} a = there blank (has_id key) t.orders (one_order sound key) place (at_order t m a).0 (at_order t m a).1

  -- an effect on the order of the message's id
  pub order_same : (e : Effect) → Good m e → Change seen m e → order_under (carried t number m e) key ≡ order_behind m e (order_under t key)
  unfolding order_under
  order_same Put g c = put_same blank (has_id key) t.orders (order_of m) (nowhere blank (has_id key) t.orders (absent_order t sound s number g c)) (eq-eqb _ _ (made_id s c.type))
  order_same (Replace place shares price) g c =
      let at = at_order t m c.0 in
      set_same blank (has_id key) t.orders place _ (one_order sound key) at.0 at.1 at.1
      ∙ sym (ap (order_updated shares price) (there blank (has_id key) t.orders (one_order sound key) place at.0 at.1))
  order_same (Remove place) g c = leave_same blank (has_id key) t.orders place (one_order sound key) (at_order t m c).0 (at_order t m c).1
  order_same (Renew place) g c = refl
  order_same Enter g c = refl
  order_same (Record code) g c = refl
  order_same Unchanged g c = refl
  order_same (Fault reason) g c = refl
  order_same CountApart g c = refl

  -- and on the order of any other
  pub order_other : (e : Effect) → Good m e → Change seen m e → (k : ℕ) → k ≢ key → order_under (carried t number m e) k ≡ order_under t k
  unfolding order_under
  order_other Put g c k n = put_other blank (has_id k) t.orders (order_of m) (ne_eqb _ _ (λ z. n (sym z ∙ made_id s c.type)))
  order_other (Replace place shares price) g c k n =
      let away : has_id k (get_or t.orders place blank) ≡ false = ne_eqb _ _ (λ z. n (sym z ∙ eqb-true _ key (at_order t m c.0).1)) in
      set_other blank (has_id k) t.orders place _ away away
  order_other (Remove place) g c k n =
      let away : has_id k (get_or t.orders place blank) ≡ false = ne_eqb _ _ (λ z. n (sym z ∙ eqb-true _ key (at_order t m c).1)) in
      leave_other blank (has_id k) t.orders place (one_order sound k) (at_order t m c).0 away
  order_other (Renew place) g c k n = refl
  order_other Enter g c k n = refl
  order_other (Record code) g c k n = refl
  order_other Unchanged g c k n = refl
  order_other (Fault reason) g c k n = refl
  order_other CountApart g c k n = refl

  -- the inside that a Top of Book tells, and the one that it takes the place of, have the message's symbol
  told_alike : type_of m ≡ 26 → (symbol : List ℕ) → has_symbol symbol (inside_of m) ≡ same_symbol topic symbol
  told_alike e symbol = ap (λ (x : List ℕ). same_symbol x symbol) (told_topic s e)

  held_alike : {place : ℕ} → Held seen m place → (symbol : List ℕ) → has_symbol symbol (get_or t.insides place gone) ≡ same_symbol topic symbol
  held_alike {place} a symbol = alike (get_or t.insides place gone).symbol topic (at_inside t m a).1 symbol

  -- an effect on the inside of the message's symbol
  pub inside_same : (e : Effect) → Good m e → Change seen m e → (symbol : List ℕ) → same_symbol topic symbol ≡ true → inside_under (carried t number m e) symbol ≡ inside_behind m e (inside_under t symbol)
  unfolding inside_under
  inside_same Put g c symbol same = refl
  inside_same (Replace place shares price) g c symbol same = refl
  inside_same (Remove place) g c symbol same = refl
  inside_same (Renew place) g c symbol same =
      set_same gone (has_symbol symbol) t.insides place (inside_of m) (one_inside sound symbol) (at_inside t m c).0 (held_alike c symbol ∙ same) (told_alike c.type symbol ∙ same)
  inside_same Enter g c symbol same =
      put_same gone (has_symbol symbol) t.insides (inside_of m) (nowhere gone (has_symbol symbol) t.insides (λ i h. sym (alike_to topic symbol same (get_or t.insides i gone).symbol) ∙ absent_inside t sound s number g c i h)) (told_alike c.type symbol ∙ same)
  inside_same (Record code) g c symbol same = refl
  inside_same Unchanged g c symbol same = refl
  inside_same (Fault reason) g c symbol same = refl
  inside_same CountApart g c symbol same = refl

  -- and on the inside of any other
  pub inside_other : (e : Effect) → Change seen m e → (symbol : List ℕ) → same_symbol topic symbol ≡ false → inside_under (carried t number m e) symbol ≡ inside_under t symbol
  unfolding inside_under
  inside_other Put c symbol other = refl
  inside_other (Replace place shares price) c symbol other = refl
  inside_other (Remove place) c symbol other = refl
  inside_other (Renew place) c symbol other =
      set_other gone (has_symbol symbol) t.insides place (inside_of m) (held_alike c symbol ∙ other) (told_alike c.type symbol ∙ other)
  inside_other Enter c symbol other = put_other gone (has_symbol symbol) t.insides (inside_of m) (told_alike c.type symbol ∙ other)
  inside_other (Record code) c symbol other = refl
  inside_other Unchanged c symbol other = refl
  inside_other (Fault reason) c symbol other = refl
  inside_other CountApart c symbol other = refl

  -- ---- a message, by name

  abbrev type : ℕ
  type = type_of m

  abbrev OrderAfter : Option Order → Effect → Type 0
  OrderAfter after e = Change seen m e → order_behind m e (order_under t key) ≡ after

  execution-after : OrderAfter (order_executed (number_in (row_of m) 2) (order_under t key)) (execution_of seen.order seen.shares seen.price (number_in (row_of m) 2))
  unfolding seen_of
  execution-after =
      let n = number_in (row_of m) 2 in
      let o = there_of t.orders (order_seen t m) in
      pick (OrderAfter (order_executed n (order_under t key))) (eqb (seen.shares - n) 0)
      (λ z c. sym (execution-is n o true z (order_there c)))
      (λ z c. ap (order_updated (o.shares - n) o.price) (order_there c.0) ∙ sym (execution-is n o false z (order_there c.0)))

  order_changed : OrderAfter (order_after m (order_under t key)) (change_of seen m)
  order_changed =
      let After = OrderAfter (order_after m (order_under t key)) in
      pick After (eqb type 20) (λ e c. rw (eqb-true type 20 e))
      λ f0. pick After (eqb type 21) (λ e c. rw (eqb-true type 21 e))
      λ f1. pick After (eqb type 22) (λ e c. rw (eqb-true type 22 e))
      λ f2. pick After (eqb type 23) (λ e c. rw (eqb-true type 23 e))
      λ f3. pick After (eqb type 24) (λ e c. rw (eqb-true type 24 e) (execution-after c))
      λ f4. pick After (eqb type 25) (λ e c. rw (eqb-true type 25 e) (execution-after c))
      λ f5. pick After (eqb type 26)
      (λ e. pick After (is_at seen.inside) (λ z c. rw (eqb-true type 26 e)) (λ z c. rw (eqb-true type 26 e)))
      (λ f6. pick After (is_listed type) (λ z c. simp (f1, f2, f3, f4, f5)) (λ z c. simp (f1, f2, f3, f4, f5)))

  abbrev InsideAfter : Option Inside → Effect → Type 0
  InsideAfter old e = inside_behind m e old ≡ inside_after m old

  inside_changed : (old : Option Inside) → InsideAfter old (change_of seen m)
  inside_changed old =
      let After = InsideAfter old in
      let execution : old ≡ inside_after m old → After (execution_of seen.order seen.shares seen.price (number_in (row_of m) 2)) =
      λ h. pick After (eqb (seen.shares - number_in (row_of m) 2) 0) (λ z. h) (λ z. h) in
      pick After (eqb type 20) (λ e. rw (eqb-true type 20 e))
      λ f0. pick After (eqb type 21) (λ e. rw (eqb-true type 21 e))
      λ f1. pick After (eqb type 22) (λ e. rw (eqb-true type 22 e))
      λ f2. pick After (eqb type 23) (λ e. rw (eqb-true type 23 e))
      λ f3. pick After (eqb type 24) (λ e. execution (rw (eqb-true type 24 e)))
      λ f4. pick After (eqb type 25) (λ e. execution (rw (eqb-true type 25 e)))
      λ f5. pick After (eqb type 26)
      (λ e. pick After (is_at seen.inside) (λ z. rw (eqb-true type 26 e)) (λ z. rw (eqb-true type 26 e)))
      (λ f6. pick After (is_listed type) (λ z. simp f6) (λ z. simp f6))

  module _ (ok : is_fault (effect_in t s) ≡ false) where
    -- asking for the id that the message names gives what its type makes of the order
    pub order_named : order_under (apply_of t number s) key ≡ order_after m (order_under t key)
    unfolding apply_of
    order_named =
        let is : effect_in t s ≡ change_of seen m = unfaulted seen m ok in
        let c = tells seen m is in
        ap (λ (e : Effect). order_under (carried t number m e) key) is ∙ order_same (change_of seen m) c.0 c.1 ∙ order_changed c.1

    pub inside_named : (symbol : List ℕ) → same_symbol topic symbol ≡ true → inside_under (apply_of t number s) symbol ≡ inside_after m (inside_under t symbol)
    unfolding apply_of
    inside_named symbol same =
        let is : effect_in t s ≡ change_of seen m = unfaulted seen m ok in
        let c = tells seen m is in
        ap (λ (e : Effect). inside_under (carried t number m e) symbol) is ∙ inside_same (change_of seen m) c.0 c.1 symbol same ∙ inside_changed (inside_under t symbol)

  -- and asking for any other gives what it gave, whatever the message
  pub order_others : (k : ℕ) → k ≢ key → order_under (apply_of t number s) k ≡ order_under t k
  unfolding apply_of
  order_others = order_other (effect_in t s) (told seen m).0 (told seen m).1

  pub inside_others : (symbol : List ℕ) → same_symbol topic symbol ≡ false → inside_under (apply_of t number s) symbol ≡ inside_under t symbol
  unfolding apply_of
  inside_others = inside_other (effect_in t s) (told seen m).1

  -- a symbol of 14 bytes that differs in one is another
  pub other_symbols : (symbol : List ℕ) → Bytes topic → Bytes symbol → length topic ≡ 14 → length symbol ≡ 14 → topic ≢ symbol → inside_under (apply_of t number s) symbol ≡ inside_under t symbol
  other_symbols symbol bytes bytes₂ size size₂ n = inside_others symbol (other_bytes topic symbol bytes bytes₂ size size₂ n)

  -- ---- a fault leaves every order and every inside

  fault_leaves : (e : Effect) → is_fault e ≡ true → ((carried t number m e).orders ≡ t.orders) × ((carried t number m e).insides ≡ t.insides)
  fault_leaves Put h = no h
  fault_leaves (Replace place shares price) h = no h
  fault_leaves (Remove place) h = no h
  fault_leaves (Renew place) h = no h
  fault_leaves Enter h = no h
  fault_leaves (Record code) h = no h
  fault_leaves Unchanged h = no h
  fault_leaves (Fault reason) h = (refl, refl)
  fault_leaves CountApart h = no h

  pub fault_orders : is_fault (effect_in t s) ≡ true → (k : ℕ) → order_under (apply_of t number s) k ≡ order_under t k
  unfolding apply_of order_under
  fault_orders h k = ap (first_that (has_id k)) (fault_leaves (effect_in t s) h).0

  pub fault_insides : is_fault (effect_in t s) ≡ true → (symbol : List ℕ) → inside_under (apply_of t number s) symbol ≡ inside_under t symbol
  unfolding apply_of inside_under
  fault_insides h symbol = ap (first_that (has_symbol symbol)) (fault_leaves (effect_in t s) h).1

  -- ---- the sentences

  module _ (ok : is_fault (effect_in t s) ≡ false) where
    -- 22 to 25 name a live order
    pub names_live : names type ≡ true → is_there (order_under t key) ≡ true
    names_live e =
        by_faults seen m (λ (x : Effect). is_fault x ≡ false → is_there (order_under t key) ≡ true) (λ reason one h. no (sym h))
        (λ one g three four five six eight h. ap is_there (order_there (record { there = not-false _ (right (names type) _ e five); place = refl }))) ok

    -- "Add makes an order", of an id that named none
    pub add_new : type ≡ 21 → order_under t key ≡ None
    unfolding order_under
    add_new e =
        let put : change_of seen m ≡ Put = rw e in
        let c = tells seen m (unfaulted seen m ok ∙ put) in
        nowhere blank (has_id key) t.orders (absent_order t sound s number c.0 c.1)

    pub add_makes : type ≡ 21 → order_under (apply_of t number s) key ≡ Some (order_of m)
    add_makes e = order_named ok ∙ rw e

    -- "Update replaces shares and price"
    pub update_replaces : type ≡ 22 → order_under (apply_of t number s) key ≡ order_updated (number_in (row_of m) 2) (number_in (row_of m) 3) (order_under t key)
    update_replaces e = order_named ok ∙ rw e

    -- "Delete removes"
    pub delete_removes : type ≡ 23 → order_under (apply_of t number s) key ≡ None
    delete_removes e = order_named ok ∙ rw e

    -- "24 and 25 subtract executed, and at zero the order leaves"
    pub execution_subtracts : (type ≡ 24) ⊎ (type ≡ 25) → order_under (apply_of t number s) key ≡ order_executed (number_in (row_of m) 2) (order_under t key)
    execution_subtracts e = order_named ok ∙ ⊎_elim (λ (z : type ≡ 24). rw z) (λ (z : type ≡ 25). rw z) e

    -- "26 replaces that symbol's inside, all seven fields"
    pub top_replaces : type ≡ 26 → inside_under (apply_of t number s) topic ≡ Some (inside_of m)
    top_replaces e = inside_named ok topic (bytes_same topic topic refl) ∙ rw e

  -- any type but 21 to 25 leaves every order, and any type but 26 every inside; so 20, 27, 28, 9, 11 and 12 leave both tables
  pub orders_stay : (leb 21 type && leb type 25) ≡ false → (k : ℕ) → order_under (apply_of t number s) k ≡ order_under t k
  orders_stay quiet k = by (is_fault (effect_in t s)) refl
    where
      never : {A : Type 0} (n : ℕ) → (leb 21 n && leb n 25) ≡ true → eqb type n ≡ true → A
      never n h e = no (sym quiet ∙ ap (λ (j : ℕ). leb 21 j && leb j 25) (eqb-true type n e) ∙ h)

      stays : (old : Option Order) → order_after m old ≡ old
      stays old =
          pick (λ (o : Option Order). o ≡ old) (eqb type 21) (never 21 refl)
          λ f1. pick (λ (o : Option Order). o ≡ old) (eqb type 22) (never 22 refl)
          λ f2. pick (λ (o : Option Order). o ≡ old) (eqb type 23) (never 23 refl)
          λ f3. pick (λ (o : Option Order). o ≡ old) (eqb type 24) (never 24 refl)
          λ f4. pick (λ (o : Option Order). o ≡ old) (eqb type 25) (never 25 refl) (λ f5. refl)

      by : (b : Bool) → is_fault (effect_in t s) ≡ b → order_under (apply_of t number s) k ≡ order_under t k
      by true h = fault_orders h k
      by false h =
          split k key
          (λ e. subst (λ (j : ℕ). order_under (apply_of t number s) j ≡ order_under t j) (sym e) (order_named h ∙ stays (order_under t key)))
          (order_others k)

  pub insides_stay : type ≢ 26 → (symbol : List ℕ) → inside_under (apply_of t number s) symbol ≡ inside_under t symbol
  insides_stay quiet symbol = by (is_fault (effect_in t s)) (same_symbol topic symbol) refl refl
    where
      by : (b c : Bool) → is_fault (effect_in t s) ≡ b → same_symbol topic symbol ≡ c → inside_under (apply_of t number s) symbol ≡ inside_under t symbol
      by true c h e = fault_insides h symbol
      by false true h e = inside_named h symbol e ∙ simp (ne_eqb type 26 quiet)
      by false false h e = inside_others symbol e
