-- The answers to the questions, one law for each way out, over plain values.
-- Assumes nothing.
use mathlib.Core.Path.{◌≡◌, ap, ap₂, ◌∙◌, sym, subst}
use mathlib.Core.Bool.{Bool, true, false, not, ◌&&◌, and-false}
use mathlib.Core.Logic.{◌≢◌}
use borrow.Author.Tests.{eq-eqb, ne_eqb}
use mathlib.Core.List.{List, ◌∷◌}
use Prim.Native.Nat.{ℕ, suc, ◌+◌, ◌-◌, ◌*◌, ◌≤◌, ◌<◌}
use native.Mathlib.Nat.{le_refl}
use native.Mathlib.Omega.{arith}
use lib.Dec.{eqb}
use lib.ListN.{length, get_or, take, drop, length-map}
use lib.Seq.{drop-cons, drop-length}
use Rattle.std.specs.Prelude.{Err, None, Ok, Option, Result, Some, is_ok}
use Rattle.refusals.specs.declared.Refusal.{Refusal}
use Rattle.refusals.specs.declared.Refusal.TheVariants.{BadQuestion, NotThere}
use Rattle.fields.specs.Id.{good_id, number_of, id_answer}
use Rattle.fields.specs.Rules.{good_symbol, good_side}
use Rattle.fields.proofs.Ids.{accepted_good}
use Rattle.book.specs.Lookup.{is_at, place_found, front_of, back_of, key_at, symbol_at}
use Rattle.book.specs.Tables.{Book, blank, gone, no_inside, ids_of, fronts_of, backs_of, view}
use Rattle.book.specs.Rule.{Kept}
use Rattle.book.specs.Asking.{order_asked, inside_asked, inside_for, better, is_of, alone, joined, best_in, no_level, best_for, reply_with, Joins, Room}
use Rattle.book.specs.declared.tables.Order.{Order}
use Rattle.book.specs.declared.tables.Inside.{Inside}
use Rattle.book.specs.declared.asking.Level.{Level}
use Rattle.book.proofs.Carrying.{live_is, held-is, keys_are, insides_are, fronts_are, backs_are, order_at}
use Rattle.book.proofs.Holding.{get_places}
use Rattle.book.proofs.Steps.{front_keys}
use Rattle.book.proofs.Types.{pick, answer_refused, answer_value}
use Rattle.book.proofs.Under.{key_below, symbol_below}

module _ (b : Book) (kept : Kept b) where
  -- ---- by order id

  module _ (id : List ℕ) {answer : Result ℕ Refusal} (asked : answer ≡ id_answer id) where
    pub order_bad : {r : Refusal} → answer ≡ Err r → Err BadQuestion ≡ order_asked (view b) id
    unfolding order_asked
    order_bad e = simp (sym (accepted_good id asked) ∙ ap is_ok e)

    pub order_refused : {r : Refusal} → answer ≡ Err r → Err r ≡ order_asked (view b) id
    order_refused e = ap Err (answer_refused id asked e) ∙ order_bad e

    module _ {key : ℕ} (value : answer ≡ Ok key) {found : Option ℕ} (sought : found ≡ key_at key (take b.live b.keys)) where
      good : good_id id ≡ true
      good = sym (accepted_good id asked) ∙ ap is_ok value

      order_found : key_at (number_of id) (ids_of (view b).orders) ≡ found
      order_found =
          sym
          (sought
          ∙ ap₂ key_at (answer_value id asked value) (front_keys 256 (ids_of (view b).orders) (keys_are b kept.same) (live_is b kept.same ∙ sym (length-map (view b).orders (λ o. o.id)))))

      pub order_none : found ≡ None → Err NotThere ≡ order_asked (view b) id
      unfolding order_asked
      order_none e = simp (good, order_found ∙ e)

      module _ {place : ℕ} (at : found ≡ Some place) where
        pub order_within : place < b.live
        order_within =
            let e : key_at (number_of id) (ids_of (view b).orders) ≡ Some place = order_found ∙ at in
            let r = key_below (number_of id) (ids_of (view b).orders) (ap is_at e) in
            let l : length (ids_of (view b).orders) ≡ b.live = length-map (view b).orders (λ o. o.id) ∙ sym (live_is b kept.same) in
            subst (λ (n : ℕ). place < n) l (subst (λ (f : Option ℕ). place_found f < length (ids_of (view b).orders)) e r)

        pub order_known : ◌≡◌ {A = Result Order Refusal} (Ok (get_or b.orders place blank)) (order_asked (view b) id)
        unfolding order_asked
        order_known = simp (good, order_found ∙ at, order_at b kept.same place order_within)

  -- ---- the inside by symbol

  module _ (symbol : List ℕ) where
    pub inside_bad : good_symbol symbol ≡ false → Err BadQuestion ≡ inside_asked (view b) symbol
    unfolding inside_for
    inside_bad e = simp e

    module _ (good : good_symbol symbol ≡ true) {found : Option ℕ} (sought : found ≡ symbol_at symbol (take b.held b.fronts) (take b.held b.backs)) where
      abbrev xs : List Inside
      xs = (view b).insides

      inside_found : symbol_at symbol (fronts_of xs) (backs_of xs) ≡ found
      inside_found =
          sym
          (sought
          ∙ ap₂ (symbol_at symbol)
          (front_keys 64 (fronts_of xs) (fronts_are b kept.same) (held-is b kept.same ∙ sym (length-map xs (λ i. front_of i.symbol))))
          (front_keys 64 (backs_of xs) (backs_are b kept.same) (held-is b kept.same ∙ sym (length-map xs (λ i. back_of i.symbol)))))

      pub inside_none : found ≡ None → Err NotThere ≡ inside_asked (view b) symbol
      unfolding inside_for
      inside_none e = simp (good, inside_found ∙ e)

      module _ {place : ℕ} (at : found ≡ Some place) where
        pub inside_within : place < b.held
        inside_within =
            let e : symbol_at symbol (fronts_of xs) (backs_of xs) ≡ Some place = inside_found ∙ at in
            let r = symbol_below symbol xs (ap is_at e) in
            rw (held-is b kept.same) (subst (λ (f : Option ℕ). place_found f < length xs) e r)

        inside_at_lem : get_or b.insides place gone ≡ get_or xs place gone
        inside_at_lem =
            let small : place < length xs = rw (held-is b kept.same) at inside_within in
            ap (λ (l : List Inside). get_or l place gone) (insides_are b kept.same) ∙ get_places 64 no_inside xs place gone small

        pub inside_known : ◌≡◌ {A = Result Inside Refusal} (Ok (get_or b.insides place gone)) (inside_asked (view b) symbol)
        unfolding inside_for
        inside_known = simp (good, inside_found ∙ at, inside_at_lem)

-- ---- the best by symbol and side: from the last order to the first

-- n orders have at most n times the most shares that one can have, so no sum wraps
pub record Small (n : ℕ) (level : Level) : Type 0 where
  pub shares : level.shares ≤ n * 4_294_967_295
  pub orders : level.orders ≤ n

small_more : (symbol : List ℕ) (side n : ℕ) (o : Order) (level : Level) → o.shares ≤ 4_294_967_295 → Small n level → Small (n + 1) (joined symbol side o level)
unfolding joined
small_more symbol side n o level most small =
    let same : Small (n + 1) level = record { shares = omega arith; orders = omega arith } in
    let one : Small (n + 1) (alone o) = record { shares = omega arith; orders = omega arith } in
    pick (Small (n + 1)) (not (is_of symbol side o)) (λ e. same)
    λ f. pick (Small (n + 1)) (eqb level.orders 0) (λ e. one)
    λ f. pick (Small (n + 1)) (better side o.price level.price) (λ e. one)
    λ f. pick (Small (n + 1)) (eqb o.price level.price) (λ e. record { shares = omega arith; orders = omega arith }) (λ e. same)

-- the orders from k on have the level, and its sums are small
pub record Going (symbol : List ℕ) (side : ℕ) (orders : List Order) (k : ℕ) (level : Level) : Type 0 where
  pub within : k ≤ length orders
  pub is : level ≡ best_in symbol side (drop k orders)
  pub small : Small (length orders - k) level

pub zero_level : {level : Level} → level.price ≡ 0 → level.shares ≡ 0 → level.orders ≡ 0 → level ≡ no_level
zero_level p q r = λ i. record { price = p i; shares = q i; orders = r i }

module _ (symbol : List ℕ) (side : ℕ) (orders : List Order) where
  pub best_start : {level : Level} → level ≡ no_level → Going symbol side orders (length orders) level
  unfolding best_in
  best_start e =
      record {
        within = le_refl (length orders);
        is = e ∙ sym (ap (best_in symbol side) (drop-length orders));
        small = record { shares = omega (arith, ap (λ (l : Level). l.shares) e); orders = omega (arith, ap (λ (l : Level). l.orders) e) };
      }

  module _ {k : ℕ} {level : Level} (g : Going symbol side orders k level) where
    pub best_room : length orders ≤ 256 → 0 < k → Room level
    best_room few some =
        let few₂ : length orders - k ≤ 255 = omega (arith, g.within) in
        record { shares = omega (arith, g.small.shares); orders = omega (arith, g.small.orders) }

    -- one order before
    pub best_step : {r : Level} → 0 < k → Joins symbol side (get_or orders (k - 1) blank) level r → Going symbol side orders (k - 1) r
    unfolding best_in
    best_step {r} some joins =
        let inside : k - 1 < length orders = omega (arith, g.within) in
        let next : suc (k - 1) ≡ k = omega arith in
        let more : length orders - k + 1 ≡ length orders - (k - 1) = omega (arith, g.within) in
        record {
          within = omega arith;
          is =
              joins.same
              ∙ ap (joined symbol side (get_or orders (k - 1) blank)) g.is
              ∙ sym (ap (best_in symbol side) (drop-cons orders (k - 1) blank inside ∙ ap (λ (j : ℕ). get_or orders (k - 1) blank ∷ drop j orders) next));
          small =
              subst (λ (m : ℕ). Small m r) more
              (subst (Small (length orders - k + 1)) (sym joins.same)
              (small_more symbol side (length orders - k) (get_or orders (k - 1) blank) level joins.most g.small));
        }

    pub best_all : k ≡ 0 → level ≡ best_in symbol side orders
    best_all e = g.is ∙ ap (λ (j : ℕ). best_in symbol side (drop j orders)) e

-- the answer by whether the question is good, and by the level of all orders
module _ (symbol : List ℕ) (side : ℕ) (orders : List Order) where
  bad : (good_symbol symbol && good_side side) ≡ false → Err BadQuestion ≡ best_for orders symbol side
  unfolding best_for reply_with
  bad g = simp g

  pub bad_symbol : good_symbol symbol ≡ false → Err BadQuestion ≡ best_for orders symbol side
  bad_symbol g = bad (ap (λ (b : Bool). b && good_side side) g)

  pub bad_side : good_side side ≡ false → Err BadQuestion ≡ best_for orders symbol side
  bad_side g = bad (ap (λ (b : Bool). good_symbol symbol && b) g ∙ and-false (good_symbol symbol))

  module _ (s : good_symbol symbol ≡ true) (g : good_side side ≡ true) {level : Level} (all : level ≡ best_in symbol side orders) where
    answered : best_for orders symbol side ≡ reply_with true level
    unfolding best_for
    answered = ap₂ (λ (a b : Bool). reply_with (a && b) (best_in symbol side orders)) s g ∙ ap (reply_with true) (sym all)

    pub no_best : level.orders ≡ 0 → Err NotThere ≡ best_for orders symbol side
    unfolding reply_with
    no_best e = rw answered (simp (eq-eqb _ _ e))

    pub the_best : level.orders ≢ 0 → Ok level ≡ best_for orders symbol side
    unfolding reply_with
    the_best n = rw answered (simp (ne_eqb _ _ n))
