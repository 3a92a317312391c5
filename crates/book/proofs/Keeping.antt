-- The rule is kept: a fresh book has it, and every whole message leaves it. So ids stay apart, every live order keeps 1 share or
-- more, a good side, symbol and price, and there are never more than 256 orders and 64 insides.
-- Assumes nothing.
use mathlib.Core.Path.{◌≡◌, refl, ap, ap₂, ◌∙◌, sym, subst}
use mathlib.Core.Logic.{◌≢◌, ◌⊎◌, ⊎_elim}
use mathlib.Core.Bool.{Bool, true, false, ◌&&◌, ◌||◌, or-true}
use mathlib.Core.List.{List, [], ◌∷◌, ◌++◌}
use Prim.Native.Nat.{ℕ, ◌+◌, ◌-◌, ◌≤◌, ◌<◌}
use native.Mathlib.Omega.{arith}
use borrow.Author.Tests.{eqb-false, le-leb}
use lib.Dec.{eqb}
use lib.ListN.{length, get_or, set, length-map, length-set, get_or-append}
use lib.Seq.{get_or_at, get_or-set_same, get_or-set_other, map-set_same}
use Rattle.wire.specs.Layout.{number_in}
use Rattle.fields.specs.Id.{no_value, number_of, good_id}
use Rattle.fields.specs.Rules.{good_symbol, good_side, good_quantity, good_price, good_inside_price, good_unsolicited, good_session}
use Rattle.book_index.specs.Changes.{without}
use Rattle.book_index.proofs.Laws.{map-without}
use Rattle.book_index.proofs.Moves.{length_without, without_here, without_other}
use Rattle.message.specs.Layouts.{layout_of}
use Rattle.message.specs.Row.{fields_of, message_of, type_of, row_of}
use Rattle.message.specs.Rules.{good_message, broken_of}
use Rattle.message.proofs.Kept.{all_kept}
use Rattle.message.specs.declared.kinds.Message.{Message}
use Rattle.wire.specs.Number.{part}
use Rattle.book.specs.Lookup.{front_of, back_of, same_symbol}
use Rattle.book.specs.Tables.{Book, Tables, fresh, with_orders, with_insides, blank, gone, no_order, no_inside, ids_of, fronts_of, backs_of, rep, view}
use Rattle.book.specs.Applying.{Seen, message_in, topic_of, seen_of, effect_in, carried, apply_of, order_of, inside_of, repriced}
use Rattle.book.specs.Named.{has_id, has_symbol}
use Rattle.book.specs.Rule.{GoodOrder, GoodInside, Distinct, Apart, Sound, Kept, Ready}
use Rattle.book.specs.declared.tables.Order.{Order}
use Rattle.book.specs.declared.tables.Inside.{Inside}
use Rattle.book.specs.declared.deciding.Effect.{Effect}
use Rattle.book.specs.declared.tables.OpeningRule.{OpeningRule}
use Rattle.book.specs.declared.deciding.Effect.TheVariants.{Put, Replace, Remove, Renew, Enter, Record, Unchanged, Fault, CountApart}
use Rattle.book.proofs.Holding.{take_places, length-places, map_put, length_put}
use Rattle.book.proofs.Keyed.{Nowhere}
use Rattle.book.proofs.Told.{Good, Change, Updated, Lowered, AtOrder, Placed, Held, Entered, Coded, told}
use Rattle.book.proofs.Symbols.{fronted}
use Rattle.book.proofs.Types.{split, of_type, made_id, told_topic, valued}
use Rattle.book.proofs.Under.{at_inside, at_order, back_at, front_at, id_at, no_inside_lem, no_order_lem, renewed}

-- ---- lists, place by place

module _ {A : Type 0} (d : A) where
  put_old : (xs : List A) (x : A) (i : ℕ) → i < length xs → get_or (xs ++ (x ∷ [])) i d ≡ get_or xs i d
  put_old xs x i h = get_or-append xs (x ∷ []) d i h

  put_new : (xs : List A) (x : A) (i : ℕ) → i ≡ length xs → get_or (xs ++ (x ∷ [])) i d ≡ x
  put_new xs x i e = get_or_at xs x [] d i (sym e)

  module _ (P : A → Type 0) where
    all_put : (xs : List A) (x : A) → ((i : ℕ) → i < length xs → P (get_or xs i d)) → P x → (i : ℕ) → i < length (xs ++ (x ∷ [])) → P (get_or (xs ++ (x ∷ [])) i d)
    all_put xs x f p i h =
        let l : length (xs ++ (x ∷ [])) ≡ length xs + 1 = length_put xs x in
        split i (length xs)
        (λ e. subst P (sym (put_new xs x i e)) p)
        (λ n. let small : i < length xs = omega arith in subst P (sym (put_old xs x i small)) (f i small))

    pub all_set : (xs : List A) (j : ℕ) (x : A) → j < length xs → ((i : ℕ) → i < length xs → P (get_or xs i d)) → P x → (i : ℕ) → i < length (set xs j x) → P (get_or (set xs j x) i d)
    all_set xs j x small f p i h =
        let l : length (set xs j x) ≡ length xs = length-set xs j x in
        split i j
        (λ e. subst P (sym (ap (λ (k : ℕ). get_or (set xs j x) k d) e ∙ get_or-set_same xs j x d small)) p)
        (λ n. subst P (sym (get_or-set_other xs j i x d n)) (f i (omega arith)))

    pub all_leave : (xs : List A) (j : ℕ) → j < length xs → ((i : ℕ) → i < length xs → P (get_or xs i d)) → (i : ℕ) → i < length (without d j xs) → P (get_or (without d j xs) i d)
    all_leave xs j small f i h =
        let l : length (without d j xs) ≡ length xs - 1 = length_without d j xs in
        let within : i < length xs - 1 = omega arith in
        split i j
        (λ e.
        let at : j < length xs - 1 = omega arith in
        subst P (sym (ap (λ (k : ℕ). get_or (without d j xs) k d) e ∙ without_here d j xs at)) (f (length xs - 1) (omega arith)))
        (λ n. subst P (sym (without_other d j xs i within n)) (f i (omega arith)))

-- ---- ids apart

distinct_put : (xs : List ℕ) (x : ℕ) → Distinct xs → ((i : ℕ) → i < length xs → get_or xs i 0 ≢ x) → Distinct (xs ++ (x ∷ []))
distinct_put xs x apart new i j less h =
    let l : length (xs ++ (x ∷ [])) ≡ length xs + 1 = length_put xs x in
    let low : i < length xs = omega arith in
    split j (length xs)
    (λ e q. new i low (sym (put_old 0 xs x i low) ∙ q ∙ put_new 0 xs x j e))
    (λ n q.
    let high : j < length xs = omega arith in
    apart i j less high (sym (put_old 0 xs x i low) ∙ q ∙ put_old 0 xs x j high))

distinct_leave : (xs : List ℕ) (j : ℕ) → j < length xs → Distinct xs → Distinct (without 0 j xs)
distinct_leave xs j small apart i k less h =
    let l : length (without 0 j xs) ≡ length xs - 1 = length_without 0 j xs in
    let high : k < length xs - 1 = omega arith in
    let low : i < length xs - 1 = omega arith in
    let end : length xs - 1 < length xs = omega arith in
    split i j
    (λ e q.
    let n : k ≢ j = λ z. omega arith in
    let at : j < length xs - 1 = omega arith in
    apart k (length xs - 1) high end
    (sym (without_other 0 j xs k high n) ∙ sym q ∙ ap (λ (m : ℕ). get_or (without 0 j xs) m 0) e ∙ without_here 0 j xs at))
    (λ n. split k j
    (λ e q.
    let at : j < length xs - 1 = omega arith in
    apart i (length xs - 1) low end
    (sym (without_other 0 j xs i low n) ∙ q ∙ ap (λ (m : ℕ). get_or (without 0 j xs) m 0) e ∙ without_here 0 j xs at))
    (λ n₂ q. apart i k less (omega arith) (sym (without_other 0 j xs i low n) ∙ q ∙ without_other 0 j xs k high n₂)))

-- ---- symbols apart

apart_put : (xs ys : List ℕ) (x y : ℕ) → length ys ≡ length xs → Apart xs ys → ((i : ℕ) → i < length xs → (eqb (get_or xs i 0) x && eqb (get_or ys i 0) y) ≡ false) → Apart (xs ++ (x ∷ [])) (ys ++ (y ∷ []))
apart_put xs ys x y m old new i j less h =
    let l : length (xs ++ (x ∷ [])) ≡ length xs + 1 = length_put xs x in
    let low : i < length xs = omega arith in
    let low₂ : i < length ys = omega arith in
    split j (length xs)
    (λ e. ap₂ ◌&&◌ (ap₂ eqb (put_old 0 xs x i low) (put_new 0 xs x j e)) (ap₂ eqb (put_old 0 ys y i low₂) (put_new 0 ys y j (e ∙ sym m))) ∙ new i low)
    (λ n.
    let high : j < length xs = omega arith in
    let high₂ : j < length ys = omega arith in
    ap₂ ◌&&◌ (ap₂ eqb (put_old 0 xs x i low) (put_old 0 xs x j high)) (ap₂ eqb (put_old 0 ys y i low₂) (put_old 0 ys y j high₂)) ∙ old i j less high)

-- ---- a good message makes good records

module _ (s : List ℕ) where
  pub made_good : good_message (fields_of 21 s) ≡ true → GoodOrder (order_of (fields_of 21 s)) × (good_id (part s 7 14) ≡ true)
  unfolding fields_of message_of layout_of broken_of order_of
  made_good g =
      let o = order_of (fields_of 21 s) in
      let k = all_kept 21 (good_id (part s 7 14) ∷ good_side o.side ∷ good_quantity o.shares ∷ good_symbol o.symbol ∷ good_price o.price ∷ good_unsolicited o.unsolicited ∷ []) tt g in
      (record { side = k.1.0; shares = k.1.1.0; symbol = k.1.1.1.0; price = k.1.1.1.1.0; unsolicited = k.1.1.1.1.1.0 }, k.0)

  updated_good : good_message (fields_of 22 s) ≡ true → (good_quantity (number_in (row_of (fields_of 22 s)) 2) ≡ true) × (good_price (number_in (row_of (fields_of 22 s)) 3) ≡ true)
  unfolding fields_of message_of layout_of broken_of
  updated_good g =
      let n = number_in (row_of (fields_of 22 s)) in
      let k = all_kept 22 (good_id (part s 7 14) ∷ good_quantity (n 2) ∷ good_price (n 3) ∷ []) tt g in
      (k.1.0, k.1.1.0)

  told_good : good_message (fields_of 26 s) ≡ true → GoodInside (inside_of (fields_of 26 s))
  unfolding fields_of message_of layout_of broken_of inside_of
  told_good g =
      let x = inside_of (fields_of 26 s) in
      let k = all_kept 26 (good_symbol x.symbol ∷ good_inside_price x.ask ∷ good_inside_price x.bid ∷ good_unsolicited x.unsolicited ∷ []) tt g in
      record { symbol = k.0; long = refl; ask = k.1.0; bid = k.1.1.0; unsolicited = k.1.1.1.0 }

  coded_good : good_message (fields_of 20 s) ≡ true → good_session (number_in (row_of (fields_of 20 s)) 1) ≡ true
  unfolding fields_of message_of layout_of broken_of
  coded_good g = (all_kept 20 (good_session (number_in (row_of (fields_of 20 s)) 1) ∷ []) tt g).0

-- ---- every effect leaves sound tables

module _ (t : Tables) (sound : Sound t) (s : List ℕ) (number : ℕ) where
  abbrev m : Message
  m = message_in s

  abbrev seen : Seen
  seen = seen_of t m

  pub at_live : {place : ℕ} → AtOrder seen place → place < length t.orders
  at_live a = (at_order t m a).0

  put_few : Placed seen m → length t.orders < 256
  unfolding seen_of
  put_few a = a.few

  -- an Add's id is none of the live ones
  put_value : good_message m ≡ true → type_of m ≡ 21 → number_of m.id ≢ no_value
  unfolding fields_of message_of layout_of
  put_value g e = subst (λ (x : Message). number_of x.id ≢ no_value) (sym (of_type s 21 e)) (valued (part s 7 14) (made_good s (subst (λ (x : Message). good_message x ≡ true) (of_type s 21 e) g)).1)

  pub absent_order : good_message m ≡ true → Placed seen m → Nowhere blank (has_id (number_of m.id)) t.orders
  absent_order g a = no_order_lem t m (put_value g a.type) a.absent

  put_sound : good_message m ≡ true → Placed seen m → Sound (carried t number m Put)
  put_sound g a =
      let is = of_type s 21 a.type in
      let made = made_good s (subst (λ (x : Message). good_message x ≡ true) is g) in
      let l : length (t.orders ++ (order_of m ∷ [])) ≡ length t.orders + 1 = length_put t.orders (order_of m) in
      let apart : (i : ℕ) → i < length (ids_of t.orders) → get_or (ids_of t.orders) i 0 ≢ (order_of m).id =
      λ i h e. eqb-false _ _ (absent_order g a i (omega (arith, length-map t.orders (λ o. o.id)))) (sym (id_at sound i) ∙ e ∙ made_id s a.type) in
      record {
        few = omega (arith, put_few a);
        distinct = subst Distinct (sym (map_put (λ o. o.id) t.orders (order_of m))) (distinct_put (ids_of t.orders) (order_of m).id sound.distinct apart);
        orders = all_put blank GoodOrder t.orders (order_of m) sound.orders (subst (λ (x : Message). GoodOrder (order_of x)) (sym is) made.0);
        scarce = sound.scarce;
        insides = sound.insides;
        apart = sound.apart;
        coded = sound.coded;
      }

  replace_good : {place shares price : ℕ} → good_message m ≡ true → AtOrder seen place → Updated m shares price ⊎ Lowered seen shares price → GoodOrder (repriced (get_or t.orders place blank) shares price)
  unfolding seen_of
  replace_good {place} {shares} {price} g a u =
      let old = sound.orders place (at_live a) in
      ⊎_elim
      (λ (n : Updated m shares price).
      let is = of_type s 22 n.type in
      let r = updated_good s (subst (λ (x : Message). good_message x ≡ true) is g) in
      record {
        side = old.side;
        shares = ap good_quantity (n.shares ∙ ap (λ (x : Message). number_in (row_of x) 2) is) ∙ r.0;
        symbol = old.symbol;
        price = ap good_price (n.price ∙ ap (λ (x : Message). number_in (row_of x) 3) is) ∙ r.1;
        unsolicited = old.unsolicited;
      })
      (λ (n : Lowered seen shares price). record {
        side = old.side;
        shares = le-leb 1 shares n.some;
        symbol = old.symbol;
        price = ap good_price (n.price ∙ ap (λ (k : ℕ). (get_or t.orders k blank).price) (sym a.place)) ∙ old.price;
        unsolicited = old.unsolicited;
      })
      u

  replace_sound : {place shares price : ℕ} → good_message m ≡ true → AtOrder seen place → Updated m shares price ⊎ Lowered seen shares price → Sound (carried t number m (Replace place shares price))
  replace_sound {place} {shares} {price} g a u =
      let j = at_live a in
      let o = repriced (get_or t.orders place blank) shares price in
      record {
        few = subst (λ (n : ℕ). n ≤ 256) (sym (length-set t.orders place o)) sound.few;
        distinct = subst Distinct (sym (map-set_same (λ o. o.id) t.orders place o blank refl)) sound.distinct;
        orders = all_set blank GoodOrder t.orders place o j sound.orders (replace_good g a u);
        scarce = sound.scarce;
        insides = sound.insides;
        apart = sound.apart;
        coded = sound.coded;
      }

  remove_sound : {place : ℕ} → AtOrder seen place → Sound (carried t number m (Remove place))
  remove_sound {place} a =
      let j = at_live a in
      let l : length (without blank place t.orders) ≡ length t.orders - 1 = length_without blank place t.orders in
      let ids : length (ids_of t.orders) ≡ length t.orders = length-map t.orders (λ o. o.id) in
      record {
        few = omega (arith, sound.few);
        distinct = subst Distinct (sym (map-without (λ o. o.id) blank place t.orders)) (distinct_leave (ids_of t.orders) place (omega arith) sound.distinct);
        orders = all_leave blank GoodOrder t.orders place j sound.orders;
        scarce = sound.scarce;
        insides = sound.insides;
        apart = sound.apart;
        coded = sound.coded;
      }

  pub told_sound : type_of m ≡ 26 → good_message m ≡ true → GoodInside (inside_of m)
  told_sound e g =
      let is = of_type s 26 e in
      subst (λ (x : Message). GoodInside (inside_of x)) (sym is) (told_good s (subst (λ (x : Message). good_message x ≡ true) is g))

  renew_sound : {place : ℕ} → good_message m ≡ true → Held seen m place → Sound (carried t number m (Renew place))
  renew_sound {place} g a =
      record {
        few = sound.few;
        distinct = sound.distinct;
        orders = sound.orders;
        scarce = subst (λ (n : ℕ). n ≤ 64) (sym (length-set t.insides place (inside_of m))) sound.scarce;
        insides = all_set no_inside GoodInside t.insides place (inside_of m) (at_inside t m a).0 sound.insides (told_sound a.type g);
        apart = subst (λ (xs : List ℕ). Apart xs (backs_of (set t.insides place (inside_of m)))) (sym (map-set_same (λ i. front_of i.symbol) t.insides place (inside_of m) gone (renewed t s a).0))
            (subst (Apart (fronts_of t.insides)) (sym (map-set_same (λ i. back_of i.symbol) t.insides place (inside_of m) gone (renewed t s a).1)) sound.apart);
        coded = sound.coded;
      }

  -- a Top of Book's symbol is none of those held
  enter_front : good_message m ≡ true → type_of m ≡ 26 → front_of (topic_of m) ≢ 0
  enter_front g e = subst (λ (y : List ℕ). front_of y ≢ 0) (told_topic s e) (fronted (inside_of m).symbol (told_sound e g).symbol)

  pub absent_inside : good_message m ≡ true → Entered seen m → Nowhere gone (has_symbol (topic_of m)) t.insides
  absent_inside g a = no_inside_lem t m (enter_front g a.type) a.absent

  entered_apart : good_message m ≡ true → Entered seen m → Apart (fronts_of (t.insides ++ (inside_of m ∷ []))) (backs_of (t.insides ++ (inside_of m ∷ [])))
  unfolding same_symbol
  entered_apart g a =
      let xs = t.insides in
      let x = inside_of m in
      let same = told_topic s a.type in
      let lengths : length (backs_of xs) ≡ length (fronts_of xs) = length-map xs (λ i. back_of i.symbol) ∙ sym (length-map xs (λ i. front_of i.symbol)) in
      let new : (i : ℕ) → i < length (fronts_of xs) → (eqb (get_or (fronts_of xs) i 0) (front_of x.symbol) && eqb (get_or (backs_of xs) i 0) (back_of x.symbol)) ≡ false =
      λ i h. ap₂ ◌&&◌ (ap₂ eqb (front_at sound i) (ap front_of same)) (ap₂ eqb (back_at sound i) (ap back_of same)) ∙ absent_inside g a i (omega (arith, length-map xs (λ j. front_of j.symbol))) in
      subst (λ (fs : List ℕ). Apart fs (backs_of (xs ++ (x ∷ [])))) (sym (map_put (λ i. front_of i.symbol) xs x))
      (subst (Apart (fronts_of xs ++ (front_of x.symbol ∷ []))) (sym (map_put (λ i. back_of i.symbol) xs x))
      (apart_put (fronts_of xs) (backs_of xs) (front_of x.symbol) (back_of x.symbol) lengths sound.apart new))

  enter_sound : good_message m ≡ true → Entered seen m → Sound (carried t number m Enter)
  unfolding seen_of
  enter_sound g a =
      let l : length (t.insides ++ (inside_of m ∷ [])) ≡ length t.insides + 1 = length_put t.insides (inside_of m) in
      record {
        few = sound.few;
        distinct = sound.distinct;
        orders = sound.orders;
        scarce = omega (arith, a.few);
        insides = all_put no_inside GoodInside t.insides (inside_of m) sound.insides (told_sound a.type g);
        apart = entered_apart g a;
        coded = sound.coded;
      }

  record_sound : {code : ℕ} → good_message m ≡ true → Coded m code → Sound (carried t number m (Record code))
  record_sound {code} g a =
      let is = of_type s 20 a.type in
      let good : good_session code ≡ true =
      ap good_session (a.code ∙ ap (λ (x : Message). number_in (row_of x) 1) is) ∙ coded_good s (subst (λ (x : Message). good_message x ≡ true) is g) in
      record {
        few = sound.few;
        distinct = sound.distinct;
        orders = sound.orders;
        scarce = sound.scarce;
        insides = sound.insides;
        apart = sound.apart;
        coded = ap (λ (b : Bool). eqb code 0 || b) good ∙ or-true (eqb code 0);
      }

  sound_carried : (e : Effect) → Good m e → Change seen m e → Sound (carried t number m e)
  sound_carried Put g c = put_sound g c
  sound_carried (Replace place shares price) g c = replace_sound g c.0 c.1
  sound_carried (Remove place) g c = remove_sound c
  sound_carried (Renew place) g c = renew_sound g c
  sound_carried Enter g c = enter_sound g c
  sound_carried (Record code) g c = record_sound g c
  sound_carried Unchanged g c = sound
  sound_carried (Fault reason) g c =
      record { few = sound.few; distinct = sound.distinct; orders = sound.orders; scarce = sound.scarce; insides = sound.insides; apart = sound.apart; coded = sound.coded }
  sound_carried CountApart g c =
      record { few = sound.few; distinct = sound.distinct; orders = sound.orders; scarce = sound.scarce; insides = sound.insides; apart = sound.apart; coded = sound.coded }

  pub sound_apply : Sound (apply_of t number s)
  unfolding apply_of
  sound_apply =
      let c = told seen m in
      sound_carried (effect_in t s) c.0 c.1

-- ---- the rule of a book

pub view-rep : (t : Tables) → view (rep t) ≡ t
view-rep t = ap₂ (λ (orders : List Order) (insides : List Inside). with_insides (with_orders t orders) insides) (take_places 256 no_order t.orders) (take_places 64 no_inside t.insides)

pub kept_rep : (t : Tables) → Sound t → Kept (rep t)
kept_rep t sound =
    let ids : length (ids_of t.orders) ≤ 256 = subst (λ (n : ℕ). n ≤ 256) (sym (length-map t.orders (λ o. o.id))) sound.few in
    let fronts : length (fronts_of t.insides) ≤ 64 = subst (λ (n : ℕ). n ≤ 64) (sym (length-map t.insides (λ i. front_of i.symbol))) sound.scarce in
    let backs : length (backs_of t.insides) ≤ 64 = subst (λ (n : ℕ). n ≤ 64) (sym (length-map t.insides (λ i. back_of i.symbol))) sound.scarce in
    record {
      same = ap rep (sym (view-rep t));
      sound = subst Sound (sym (view-rep t)) sound;
      live = sound.few;
      held = sound.scarce;
      orders = length-places 256 no_order t.orders sound.few;
      keys = length-places 256 0 (ids_of t.orders) ids;
      insides = length-places 64 no_inside t.insides sound.scarce;
      fronts = length-places 64 0 (fronts_of t.insides) fronts;
      backs = length-places 64 0 (backs_of t.insides) backs;
    }

pub fresh_sound : (rule : OpeningRule) → Sound (fresh rule)
fresh_sound rule =
    record {
      few = omega arith;
      distinct = λ i j less h. absurd (omega arith);
      orders = λ i h. absurd (omega arith);
      scarce = omega arith;
      insides = λ i h. absurd (omega arith);
      apart = λ i j less h. absurd (omega arith);
      coded = refl;
    }

-- a fresh book has the rule, and a message leaves it
pub fresh_kept : (rule : OpeningRule) → Kept (rep (fresh rule))
fresh_kept rule = kept_rep (fresh rule) (fresh_sound rule)

pub apply_kept : {b : Book} {number : ℕ} {s : List ℕ} → Ready b number s → Kept (rep (apply_of (view b) number s))
apply_kept {b} {number} {s} ready = kept_rep (apply_of (view b) number s) (sound_apply (view b) ready.kept.sound s number)
