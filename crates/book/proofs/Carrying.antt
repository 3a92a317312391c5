-- Each effect carried out in place is what the definition says of the tables: one law an effect.
-- Assumes nothing.
use mathlib.Core.Path.{◌≡◌, refl, ap, ap₂, ◌∙◌, sym}
use mathlib.Core.List.{List, [], ◌∷◌, ◌++◌}
use Prim.Native.Nat.{ℕ, ◌+◌, ◌-◌, ◌≤◌, ◌<◌}
use native.Mathlib.Omega.{arith}
use lib.ListN.{length, get_or, set, length-map, length-set}
use lib.Seq.{map-set_same, get_or-set_same, set-set}
use Rattle.book_index.specs.Changes.{without}
use Rattle.book_index.proofs.Laws.{map-without}
use Rattle.book_index.proofs.Moves.{length_without}
use Rattle.book.specs.Lookup.{front_of, back_of}
use Rattle.book.specs.Tables.{Book, Unlisted, with_orders, with_insides, with_code, with_faults, with_unlisted, blank, gone, no_order, no_inside, places, ids_of, fronts_of, backs_of, holding_orders, holding_insides, holding_marks, holding_unlisted, rep, view}
use Rattle.book.specs.Applying.{repriced}
use Rattle.book.specs.declared.tables.Order.{Order}
use Rattle.book.specs.declared.tables.Inside.{Inside}
use Rattle.book.specs.declared.tables.Faults.{Faults}
use Rattle.book.proofs.Holding.{put_places, set-places, get_places, leave_places, map_put, length_put}

abbrev id_of : Order → ℕ
id_of o = o.id

abbrev front_in : Inside → ℕ
front_in i = front_of i.symbol

abbrev back_in : Inside → ℕ
back_in i = back_of i.symbol

-- shares and price stored one after the other
abbrev pub reshared : Order → ℕ → Order
reshared o shares = repriced o shares o.price

abbrev pub restored : List Order → ℕ → ℕ → ℕ → List Order
restored l j shares price =
    let once = set l j (reshared (get_or l j blank) shares) in
    set once j (repriced (get_or once j blank) (get_or once j blank).shares price)

pub restored_is : (l : List Order) (j shares price : ℕ) → j < length l → restored l j shares price ≡ set l j (repriced (get_or l j blank) shares price)
restored_is l j shares price h =
    let x = reshared (get_or l j blank) shares in
    ap (λ (o : Order). set (set l j x) j (repriced o o.shares price)) (get_or-set_same l j x blank h)
    ∙ set-set l j x (repriced (get_or l j blank) shares price)

module _ (b : Book) (same : b ≡ rep (view b)) where
  abbrev os : List Order
  os = (view b).orders

  abbrev is : List Inside
  is = (view b).insides

  pub live_is : b.live ≡ length os
  live_is = ap (λ (x : Book). x.live) same

  pub held-is : b.held ≡ length is
  held-is = ap (λ (x : Book). x.held) same

  pub orders_are : b.orders ≡ places 256 no_order os
  orders_are = ap (λ (x : Book). x.orders) same

  pub keys_are : b.keys ≡ places 256 0 (ids_of os)
  keys_are = ap (λ (x : Book). x.keys) same

  pub insides_are : b.insides ≡ places 64 no_inside is
  insides_are = ap (λ (x : Book). x.insides) same

  pub fronts_are : b.fronts ≡ places 64 0 (fronts_of is)
  fronts_are = ap (λ (x : Book). x.fronts) same

  pub backs_are : b.backs ≡ places 64 0 (backs_of is)
  backs_are = ap (λ (x : Book). x.backs) same

  -- a book with other orders, or with other insides, beside what it had
  ordered : {orders : List Order} {keys : List ℕ} {live : ℕ} (new : List Order)
      → orders ≡ places 256 no_order new → keys ≡ places 256 0 (ids_of new) → live ≡ length new
      → ◌≡◌ {A = Book} (holding_orders b orders keys live)
      (rep (with_orders (view b) new))
  ordered new p q r i = holding_orders (same i) (p i) (q i) (r i)

  inward : {insides : List Inside} {fronts backs : List ℕ} {held : ℕ} (new : List Inside)
      → insides ≡ places 64 no_inside new → fronts ≡ places 64 0 (fronts_of new) → backs ≡ places 64 0 (backs_of new) → held ≡ length new
      → ◌≡◌ {A = Book} (holding_insides b insides fronts backs held)
      (rep (with_insides (view b) new))
  inward new p q r h i = holding_insides (same i) (p i) (q i) (r i) (h i)

  put_places' : {A : Type 0} (n : ℕ) (dead : A) {array : List A} {at : ℕ} (xs : List A) (x : A) → array ≡ places n dead xs → at ≡ length xs → at < n
      → set array at x ≡ places n dead (xs ++ (x ∷ []))
  put_places' n dead xs x e l h =
      let small : length xs < n = omega arith in
      ap₂ (λ (a : List _) (k : ℕ). set a k x) e l ∙ put_places n dead xs x small

  pub put_rep : (o : Order) → b.live < 256
      → ◌≡◌ {A = Book} (holding_orders b (set b.orders b.live o) (set b.keys b.live o.id) (b.live + 1))
      (rep (with_orders (view b) (os ++ (o ∷ []))))
  put_rep o h =
      ordered (os ++ (o ∷ []))
      (put_places' 256 no_order os o orders_are live_is h)
      (put_places' 256 0 (ids_of os) o.id keys_are (live_is ∙ sym (length-map os id_of)) h ∙ ap (places 256 0) (sym (map_put id_of os o)))
      (ap (λ (k : ℕ). k + 1) live_is ∙ sym (length_put os o))

  pub enter_rep : (x : Inside) → b.held < 64
      → ◌≡◌ {A = Book} (holding_insides b (set b.insides b.held x) (set b.fronts b.held (front_in x)) (set b.backs b.held (back_in x)) (b.held + 1))
      (rep (with_insides (view b) (is ++ (x ∷ []))))
  enter_rep x h =
      inward (is ++ (x ∷ []))
      (put_places' 64 no_inside is x insides_are held-is h)
      (put_places' 64 0 (fronts_of is) (front_in x) fronts_are (held-is ∙ sym (length-map is front_in)) h ∙ ap (places 64 0) (sym (map_put front_in is x)))
      (put_places' 64 0 (backs_of is) (back_in x) backs_are (held-is ∙ sym (length-map is back_in)) h ∙ ap (places 64 0) (sym (map_put back_in is x)))
      (ap (λ (k : ℕ). k + 1) held-is ∙ sym (length_put is x))

  -- the order at a live place
  pub order_at : (j : ℕ) → j < b.live → get_or b.orders j blank ≡ get_or os j blank
  order_at j h =
      let small : j < length os = rw live_is at h in
      ap (λ (l : List Order). get_or l j blank) orders_are ∙ get_places 256 no_order os j blank small

  pub replace_rep : (j shares price : ℕ) → j < b.live
      → ◌≡◌ {A = Book} (holding_orders b (set b.orders j (repriced (get_or b.orders j blank) shares price)) b.keys b.live)
      (rep (with_orders (view b) (set os j (repriced (get_or os j blank) shares price))))
  replace_rep j shares price h =
      let small : j < length os = rw live_is at h in
      let o : Order = repriced (get_or os j blank) shares price in
      ordered (set os j o)
      (ap₂ (λ (l : List Order) (x : Order). set l j (repriced x shares price)) orders_are (order_at j h) ∙ set-places 256 no_order os j o small)
      (keys_are ∙ ap (places 256 0) (sym (map-set_same id_of os j o blank refl)))
      (live_is ∙ sym (length-set os j o))

  leave' : {A : Type 0} (n : ℕ) (dead d : A) {array : List A} {live : ℕ} (xs : List A) (j : ℕ) → array ≡ places n dead xs → live ≡ length xs → j < live → live ≤ n
      → set (set array j (get_or array (live - 1) d)) (live - 1) dead ≡ places n dead (without d j xs)
  leave' n dead d xs j e l h fits =
      let small : j < length xs = omega arith in
      let all : length xs ≤ n = omega arith in
      ap₂ (λ (a : List _) (k : ℕ). set (set a j (get_or a (k - 1) d)) (k - 1) dead) e l ∙ leave_places n dead xs j d small all

  pub remove_rep : (j : ℕ) → j < b.live → b.live ≤ 256
      → ◌≡◌ {A = Book} (holding_orders b (set (set b.orders j (get_or b.orders (b.live - 1) blank)) (b.live - 1) no_order) (set (set b.keys j (get_or b.keys (b.live - 1) 0)) (b.live - 1) 0) (b.live - 1))
      (rep (with_orders (view b) (without blank j os)))
  remove_rep j h fits =
      ordered (without blank j os)
      (leave' 256 no_order blank os j orders_are live_is h fits)
      (leave' 256 0 0 (ids_of os) j keys_are (live_is ∙ sym (length-map os id_of)) h fits ∙ ap (places 256 0) (sym (map-without id_of blank j os)))
      (ap (λ (k : ℕ). k - 1) live_is ∙ sym (length_without blank j os))

  -- an inside in the place of one with the same symbol
  pub renew_rep : (j : ℕ) (x : Inside) → j < b.held → front_in x ≡ front_in (get_or is j gone) → back_in x ≡ back_in (get_or is j gone)
      → ◌≡◌ {A = Book} (holding_insides b (set b.insides j x) b.fronts b.backs b.held)
      (rep (with_insides (view b) (set is j x)))
  renew_rep j x h f k =
      let small : j < length is = rw held-is at h in
      inward (set is j x)
      (ap (λ (l : List Inside). set l j x) insides_are ∙ set-places 64 no_inside is j x small)
      (fronts_are ∙ ap (places 64 0) (sym (map-set_same front_in is j x gone f)))
      (backs_are ∙ ap (places 64 0) (sym (map-set_same back_in is j x gone k)))
      (held-is ∙ sym (length-set is j x))

  -- nothing but the code, or the faults, is other than it was
  pub marked_rep : (code : ℕ) (faults : Faults)
      → ◌≡◌ {A = Book} (holding_marks b code faults)
      (rep (with_faults (with_code (view b) code) faults))
  marked_rep code faults = ap (λ (x : Book). holding_marks x code faults) same

  -- nothing but what is counted apart
  pub apart_rep : (unlisted : Unlisted) → ◌≡◌ {A = Book} (holding_unlisted b unlisted) (rep (with_unlisted (view b) unlisted))
  apart_rep unlisted = ap (λ (x : Book). holding_unlisted x unlisted) same
