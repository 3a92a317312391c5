-- The tables by name: what a look-up says of the records, what the questions answer, and that each record is the one under its
-- own name.
-- Assumes nothing.
use mathlib.Core.Path.{◌≡◌, refl, ap, ap₂, ◌∙◌, sym, subst}
use mathlib.Core.Logic.{◌≢◌}
use mathlib.Core.Bool.{Bool, true, false, cond, not, ◌&&◌}
use mathlib.Core.List.{List, [], ◌∷◌}
use Prim.Native.Nat.{ℕ, suc, ◌<◌}
use native.Mathlib.Omega.{arith}
use borrow.Author.Tests.{eq-eqb, eqb-true}
use lib.Dec.{eqb}
use lib.ListN.{length, get_or, length-map, get_or-map}
use Rattle.std.specs.Prelude.{Err, None, Ok, Option, Some}
use Rattle.refusals.specs.declared.Refusal.TheVariants.{BadQuestion, NotThere}
use Rattle.fields.specs.Id.{no_value, number_of, good_id}
use Rattle.fields.specs.Rules.{good_symbol}
use Rattle.book_index.proofs.Below.{order}
use Rattle.message.specs.declared.kinds.Message.{Message}
use Rattle.book.specs.Lookup.{is_at, place_found, front_of, back_of, key_from, key_at, same_symbol, pair_from, symbol_at}
use Rattle.book.specs.Tables.{Tables, blank, gone, ids_of, fronts_of, backs_of}
use Rattle.book.specs.Applying.{Seen, message_in, topic_of, seen_of, inside_of}
use Rattle.book.specs.Asking.{order_asked, inside_asked, inside_for}
use Rattle.book.specs.Named.{first_that, is_there, has_id, order_under, has_symbol, inside_under, order_reply, inside_reply}
use Rattle.book.specs.Rule.{Sound}
use Rattle.book.specs.declared.tables.Order.{Order}
use Rattle.book.specs.declared.tables.Inside.{Inside}
use Rattle.book.proofs.Finding.{key_some, key_none, symbol_some, symbol_none}
use Rattle.book.proofs.Keyed.{Nowhere, One, Says, says_here, says_on, says_map, pointed, said, said_at, said_none, there}
use Rattle.book.proofs.Symbols.{fronted, fronts_same, backs_same, bytes_same}
use Rattle.book.proofs.Told.{AtOrder, Held}
use Rattle.book.proofs.Types.{no, pick, split, valued, told_topic}

-- ---- a look-up speaks of the first that has the name

key_says : (k key : ℕ) (xs : List ℕ) → Says 0 (λ x. eqb x key) k xs (key_from k key xs)
unfolding key_from
key_says k key [] = λ i h. absurd (omega arith)
key_says k key (x ∷ xs) =
    pick (Says 0 (λ y. eqb y key) k (x ∷ xs)) (eqb x key)
    (says_here 0 (λ y. eqb y key) k x xs)
    (λ e. says_on 0 (λ y. eqb y key) k x xs (key_from (suc k) key xs) e (key_says (suc k) key xs))

pair_says : (k : ℕ) (symbol : List ℕ) (xs : List Inside) → Says gone (has_symbol symbol) k xs (pair_from k (front_of symbol) (back_of symbol) (fronts_of xs) (backs_of xs))
unfolding pair_from same_symbol
pair_says k symbol [] = λ i h. absurd (omega arith)
pair_says k symbol (x ∷ xs) =
    pick (Says gone (has_symbol symbol) k (x ∷ xs)) (has_symbol symbol x)
    (says_here gone (has_symbol symbol) k x xs)
    (λ e. says_on gone (has_symbol symbol) k x xs (pair_from (suc k) (front_of symbol) (back_of symbol) (fronts_of xs) (backs_of xs)) e (pair_says (suc k) symbol xs))

keys_say : (key : ℕ) (xs : List ℕ) → key ≢ no_value → Says 0 (λ x. eqb x key) 0 xs (key_at key xs)
keys_say key xs n = subst (Says 0 (λ x. eqb x key) 0 xs) (sym (key_some key xs n)) (key_says 0 key xs)

orders_say : (key : ℕ) (xs : List Order) → key ≢ no_value → Says blank (has_id key) 0 xs (key_at key (ids_of xs))
orders_say key xs n = says_map (λ o. o.id) blank (λ x. eqb x key) 0 xs (key_at key (ids_of xs)) (keys_say key (ids_of xs) n)

insides_say : (symbol : List ℕ) (xs : List Inside) → front_of symbol ≢ 0 → Says gone (has_symbol symbol) 0 xs (symbol_at symbol (fronts_of xs) (backs_of xs))
insides_say symbol xs n =
    subst (Says gone (has_symbol symbol) 0 xs) (symbol_some symbol (fronts_of xs) (backs_of xs) refl refl n refl) (pair_says 0 symbol xs)

-- what is found has a value, and a symbol that is found begins with no zero bytes
found_value : (key : ℕ) (xs : List ℕ) → is_at (key_at key xs) ≡ true → key ≢ no_value
found_value key xs h z = no (ap is_at (key_none key xs z) ∙ h)

found_symbol : (symbol : List ℕ) (xs : List Inside) → is_at (symbol_at symbol (fronts_of xs) (backs_of xs)) ≡ true → front_of symbol ≢ 0
found_symbol symbol xs h z = no (ap is_at (symbol_none symbol (fronts_of xs) (backs_of xs) refl refl z) ∙ h)

pub key_below : (key : ℕ) (xs : List ℕ) → is_at (key_at key xs) ≡ true → place_found (key_at key xs) < length xs
key_below key xs h = (said_at 0 (λ x. eqb x key) xs (key_at key xs) (keys_say key xs (found_value key xs h)) h).0

pub symbol_below : (symbol : List ℕ) (xs : List Inside) → is_at (symbol_at symbol (fronts_of xs) (backs_of xs)) ≡ true → place_found (symbol_at symbol (fronts_of xs) (backs_of xs)) < length xs
symbol_below symbol xs h = (said_at gone (has_symbol symbol) xs (symbol_at symbol (fronts_of xs) (backs_of xs)) (insides_say symbol xs (found_symbol symbol xs h)) h).0

-- ---- the questions

module _ (t : Tables) where
  -- by order id: the order of the id's value, or 12, or 13
  pub order_answer : (id : List ℕ) → order_asked t id ≡ cond (good_id id) (order_reply (order_under t (number_of id))) (Err BadQuestion)
  unfolding order_asked order_under
  order_answer id = by (good_id id) refl
    where
      asked : (f : Option ℕ) → first_that (has_id (number_of id)) t.orders ≡ pointed blank t.orders f
          → cond (not (is_at f)) (Err NotThere) (Ok (get_or t.orders (place_found f) blank)) ≡ order_reply (first_that (has_id (number_of id)) t.orders)
      asked (Some place) e = ap order_reply (sym e)
      asked None e = ap order_reply (sym e)

      by : (b : Bool) → good_id id ≡ b
          → cond (not b) (Err BadQuestion)
          (cond (not (is_at (key_at (number_of id) (ids_of t.orders)))) (Err NotThere) (Ok (get_or t.orders (place_found (key_at (number_of id) (ids_of t.orders))) blank)))
          ≡ cond b (order_reply (first_that (has_id (number_of id)) t.orders)) (Err BadQuestion)
      by true good =
          let f = key_at (number_of id) (ids_of t.orders) in
          asked f (said blank (has_id (number_of id)) t.orders f (orders_say (number_of id) t.orders (valued id good)))
      by false bad = refl

  -- the inside by symbol: likewise
  pub inside_answer : (symbol : List ℕ) → inside_asked t symbol ≡ cond (good_symbol symbol) (inside_reply (inside_under t symbol)) (Err BadQuestion)
  unfolding inside_for inside_under
  inside_answer symbol = by (good_symbol symbol) refl
    where
      asked : (f : Option ℕ) → first_that (has_symbol symbol) t.insides ≡ pointed gone t.insides f
          → cond (not (is_at f)) (Err NotThere) (Ok (get_or t.insides (place_found f) gone)) ≡ inside_reply (first_that (has_symbol symbol) t.insides)
      asked (Some place) e = ap inside_reply (sym e)
      asked None e = ap inside_reply (sym e)

      by : (b : Bool) → good_symbol symbol ≡ b
          → cond (not b) (Err BadQuestion)
          (cond (not (is_at (symbol_at symbol (fronts_of t.insides) (backs_of t.insides)))) (Err NotThere) (Ok (get_or t.insides (place_found (symbol_at symbol (fronts_of t.insides) (backs_of t.insides))) gone)))
          ≡ cond b (inside_reply (first_that (has_symbol symbol) t.insides)) (Err BadQuestion)
      by true good =
          let f = symbol_at symbol (fronts_of t.insides) (backs_of t.insides) in
          asked f (said gone (has_symbol symbol) t.insides f (insides_say symbol t.insides (fronted symbol good)))
      by false bad = refl

-- ---- what a message sees

there_is : {A : Type 0} (d : A) (xs : List A) (f : Option ℕ) → is_there (pointed d xs f) ≡ is_at f
there_is d xs (Some place) = refl
there_is d xs None = refl

module _ (t : Tables) (m : Message) where
  abbrev seen : Seen
  seen = seen_of t m

  abbrev key : ℕ
  key = number_of m.id

  abbrev topic : List ℕ
  topic = topic_of m

  -- the place of the order that it names
  pub at_order : {place : ℕ} → AtOrder seen place → (place < length t.orders) × (has_id key (get_or t.orders place blank) ≡ true)
  unfolding seen_of
  at_order a =
      let f = key_at key (ids_of t.orders) in
      subst (λ (p : ℕ). (p < length t.orders) × (has_id key (get_or t.orders p blank) ≡ true)) (sym a.place)
      (said_at blank (has_id key) t.orders f (orders_say key t.orders (found_value key (ids_of t.orders) a.there)) a.there)

  pub no_order_lem : key ≢ no_value → is_at seen.order ≡ false → Nowhere blank (has_id key) t.orders
  unfolding seen_of
  no_order_lem n h = said_none blank (has_id key) t.orders (key_at key (ids_of t.orders)) (orders_say key t.orders n) h

  -- the place of the inside of its symbol
  pub at_inside : {place : ℕ} → Held seen m place → (place < length t.insides) × (has_symbol topic (get_or t.insides place gone) ≡ true)
  unfolding seen_of
  at_inside a =
      let f = symbol_at topic (fronts_of t.insides) (backs_of t.insides) in
      subst (λ (p : ℕ). (p < length t.insides) × (has_symbol topic (get_or t.insides p gone) ≡ true)) (sym a.place)
      (said_at gone (has_symbol topic) t.insides f (insides_say topic t.insides (found_symbol topic t.insides a.there)) a.there)

  pub no_inside_lem : front_of topic ≢ 0 → is_at seen.inside ≡ false → Nowhere gone (has_symbol topic) t.insides
  unfolding seen_of
  no_inside_lem n h =
      said_none gone (has_symbol topic) t.insides (symbol_at topic (fronts_of t.insides) (backs_of t.insides)) (insides_say topic t.insides n) h

  -- faults 3 and 5 go by whether an order is live under the id, and fault 8 by whether an inside is held of the symbol
  pub live_seen : good_id m.id ≡ true → is_at seen.order ≡ is_there (order_under t key)
  unfolding seen_of order_under
  live_seen good =
      let f = key_at key (ids_of t.orders) in
      sym (ap is_there (said blank (has_id key) t.orders f (orders_say key t.orders (valued m.id good))) ∙ there_is blank t.orders f)

  pub held-seen : good_symbol topic ≡ true → is_at seen.inside ≡ is_there (inside_under t topic)
  unfolding seen_of inside_under
  held-seen good =
      let f = symbol_at topic (fronts_of t.insides) (backs_of t.insides) in
      sym (ap is_there (said gone (has_symbol topic) t.insides f (insides_say topic t.insides (fronted topic good))) ∙ there_is gone t.insides f)

-- the inside in whose place a Top of Book's stands has the same two numbers
pub renewed : (t : Tables) (s : List ℕ) {place : ℕ} → Held (seen_of t (message_in s)) (message_in s) place
    → (front_of (inside_of (message_in s)).symbol ≡ front_of (get_or t.insides place gone).symbol) × (back_of (inside_of (message_in s)).symbol ≡ back_of (get_or t.insides place gone).symbol)
renewed t s {place} a =
    let old = (get_or t.insides place gone).symbol in
    let topic = topic_of (message_in s) in
    let same = told_topic s a.type in
    let has = (at_inside t (message_in s) a).1 in
    (ap front_of same ∙ sym (fronts_same old topic has), ap back_of same ∙ sym (backs_same old topic has))

-- ---- of a sound table at most one record has a name

module _ {t : Tables} (sound : Sound t) where
  pub id_at : (i : ℕ) → get_or (ids_of t.orders) i 0 ≡ (get_or t.orders i blank).id
  id_at i = get_or-map (λ o. o.id) t.orders i blank

  two_orders : (k i j : ℕ) → i < j → j < length t.orders → has_id k (get_or t.orders i blank) ≡ true → has_id k (get_or t.orders j blank) ≡ true → ⊥
  two_orders k i j less h e f =
      sound.distinct i j less (omega (arith, length-map t.orders (λ o. o.id))) (id_at i ∙ eqb-true _ k e ∙ sym (eqb-true _ k f) ∙ sym (id_at j))

  pub one_order : (k : ℕ) → One blank (has_id k) t.orders
  one_order k i j h l e f =
      split i j (λ z. z) (λ n. absurd (order i j (λ less. two_orders k i j less l e f) (λ more. two_orders k j i (omega arith) h f e)))

  -- every live order is the one under its id
  pub order_own : (i : ℕ) → i < length t.orders → order_under t (get_or t.orders i blank).id ≡ Some (get_or t.orders i blank)
  unfolding order_under
  order_own i h =
      let k = (get_or t.orders i blank).id in
      there blank (has_id k) t.orders (one_order k) i h (eq-eqb k k refl)

module _ {t : Tables} (sound : Sound t) where
  pub front_at : (i : ℕ) → get_or (fronts_of t.insides) i 0 ≡ front_of (get_or t.insides i gone).symbol
  front_at i = get_or-map (λ x. front_of x.symbol) t.insides i gone

  pub back_at : (i : ℕ) → get_or (backs_of t.insides) i 0 ≡ back_of (get_or t.insides i gone).symbol
  back_at i = get_or-map (λ x. back_of x.symbol) t.insides i gone

  two_insides : (symbol : List ℕ) (i j : ℕ) → i < j → j < length t.insides → has_symbol symbol (get_or t.insides i gone) ≡ true → has_symbol symbol (get_or t.insides j gone) ≡ true → ⊥
  two_insides symbol i j less h e f =
      let a = (get_or t.insides i gone).symbol in
      let b = (get_or t.insides j gone).symbol in
      let fronts : get_or (fronts_of t.insides) i 0 ≡ get_or (fronts_of t.insides) j 0 = front_at i ∙ fronts_same a symbol e ∙ sym (fronts_same b symbol f) ∙ sym (front_at j) in
      let backs : get_or (backs_of t.insides) i 0 ≡ get_or (backs_of t.insides) j 0 = back_at i ∙ backs_same a symbol e ∙ sym (backs_same b symbol f) ∙ sym (back_at j) in
      no (sym (sound.apart i j less (omega (arith, length-map t.insides (λ x. front_of x.symbol)))) ∙ ap₂ ◌&&◌ (eq-eqb _ _ fronts) (eq-eqb _ _ backs))

  pub one_inside : (symbol : List ℕ) → One gone (has_symbol symbol) t.insides
  one_inside symbol i j h l e f =
      split i j (λ z. z) (λ n. absurd (order i j (λ less. two_insides symbol i j less l e f) (λ more. two_insides symbol j i (omega arith) h f e)))

  -- every inside is the one under its symbol
  pub inside_own : (i : ℕ) → i < length t.insides → inside_under t (get_or t.insides i gone).symbol ≡ Some (get_or t.insides i gone)
  unfolding inside_under
  inside_own i h =
      let symbol = (get_or t.insides i gone).symbol in
      there gone (has_symbol symbol) t.insides (one_inside symbol) i h (bytes_same symbol symbol refl)
