-- The best level that is worked out is the best, and nothing else is.
-- Assumes nothing.
use mathlib.Core.Path.{◌≡◌, refl, ap, ap₂, ◌∙◌, sym, subst}
use mathlib.Core.Logic.{◌≢◌, ◌⊎◌, inl, inr, ⊎_elim}
use mathlib.Core.Bool.{Bool, true, false, cond, not, ◌&&◌}
use mathlib.Core.List.{List, [], ◌∷◌}
use Prim.Native.Nat.{ℕ, ◌+◌, ◌≤◌}
use native.Mathlib.Nat.{le_refl}
use native.Mathlib.Omega.{arith}
use borrow.Author.Tests.{ne_eqb, eq-eqb, eqb-true, eqb-false, ltb-true, ltb-false, lt-ltb, le-ltb, not-true, not-false}
use lib.Dec.{eqb, ltb}
use Rattle.std.specs.Prelude.{Err, Ok}
use Rattle.refusals.specs.declared.Refusal.TheVariants.{NotThere}
use Rattle.fields.proofs.Tests.{and_left, and_right}
use Rattle.book.specs.Asking.{better, is_of, count, sum, at_price, beats, Best, alone, together, joined, best_in, best_asked, best_for, reply_with}
use Rattle.fields.specs.Rules.{good_symbol, good_side}
use Rattle.book.specs.Tables.{Tables}
use Rattle.book.specs.declared.tables.Order.{Order}
use Rattle.book.specs.declared.asking.Level.{Level}
use Rattle.book.proofs.Types.{no, pick, split}

-- ---- prices

Worse : ℕ → ℕ → Bool → Type 0
Worse p q b = cond b (ltb q p) (ltb p q) ≡ false → cond b (ltb p q) (ltb q p) ≡ false → p ≡ q

equal : (p q : ℕ) (b : Bool) → Worse p q b
unfolding Worse
equal p q true e f = omega (arith, ltb-false q p e, ltb-false p q f)
equal p q false e f = omega (arith, ltb-false p q e, ltb-false q p f)

neither : (side p q : ℕ) → better side p q ≡ false → better side q p ≡ false → p ≡ q
unfolding better Worse
neither side p q = equal p q (eqb side 0x42)

itself : (side p : ℕ) → better side p p ≡ false
unfolding better
itself side p = pick (λ (b : Bool). b ≡ false) (eqb side 0x42) (λ e. le-ltb p p (le_refl p)) (λ e. le-ltb p p (le_refl p))

through : (b : Bool) (p q r : ℕ) → cond b (ltb q p) (ltb p q) ≡ true → cond b (ltb r q) (ltb q r) ≡ true → cond b (ltb r p) (ltb p r) ≡ true
through true p q r e f = lt-ltb r p (omega (arith, ltb-true q p e, ltb-true r q f))
through false p q r e f = lt-ltb p r (omega (arith, ltb-true p q e, ltb-true q r f))

beyond : (side p q r : ℕ) → better side p q ≡ true → better side q r ≡ true → better side p r ≡ true
unfolding better
beyond side p q r = through (eqb side 0x42) p q r

-- ---- counts

one : (a b : Bool) → (a ≡ true → b ≡ true) → cond a 1 0 ≤ cond b 1 0
one true b f = subst (λ (c : Bool). 1 ≤ cond c 1 0) (sym (f refl)) (le_refl 1)
one false b f = omega arith

fewer : (f g : Order → Bool) → ((o : Order) → f o ≡ true → g o ≡ true) → (os : List Order) → count f os ≤ count g os
unfolding count
fewer f g h [] = omega arith
fewer f g h (o ∷ os) = omega (arith, one (f o) (g o) (h o), fewer f g h os)

nothing : (f : Order → Bool) (os : List Order) → count f os ≡ 0 → sum f os ≡ 0
unfolding count sum
nothing f [] e = refl
nothing f (o ∷ os) e =
    let rest : sum f os ≡ 0 = nothing f os (omega arith) in
    none (f o) (omega arith) rest
  where
    none : (b : Bool) → ◌≡◌ {A = ℕ} (cond b 1 0) 0 → sum f os ≡ 0 → cond b o.shares 0 + sum f os ≡ 0
    none true z r = absurd (omega arith)
    none false z r = omega arith

tally : (f : Order → Bool) (o : Order) (os : List Order) {b : Bool} → f o ≡ b → count f (o ∷ os) ≡ cond b 1 0 + count f os
unfolding count
tally f o os e = ap (λ (b : Bool). cond b 1 0 + count f os) e

total : (f : Order → Bool) (o : Order) (os : List Order) {b : Bool} → f o ≡ b → sum f (o ∷ os) ≡ cond b o.shares 0 + sum f os
unfolding sum
total f o os e = ap (λ (b : Bool). cond b o.shares 0 + sum f os) e

module _ (symbol : List ℕ) (side : ℕ) where
  -- where some have a price and none beats another, the one is not better than the other
  unbeaten : (os : List Order) (p q : ℕ) → 1 ≤ count (at_price symbol side p) os → count (beats symbol side q) os ≡ 0 → better side p q ≡ false
  unbeaten os p q some none = by (better side p q) refl
    where
      by : (b : Bool) → better side p q ≡ b → b ≡ false
      by false e = refl
      by true e =
          let h : count (at_price symbol side p) os ≤ count (beats symbol side q) os =
          fewer (at_price symbol side p) (beats symbol side q)
          (λ o a. ap₂ ◌&&◌ (and_left (is_of symbol side o) (eqb o.price p) a) (subst (λ (x : ℕ). better side x q ≡ true) (sym (eqb-true o.price p (and_right (is_of symbol side o) (eqb o.price p) a))) e))
          os in
          absurd (omega arith)

  -- no two levels are the best
  pub best_one : (os : List Order) (l m : Level) → Best symbol side os l → Best symbol side os m → l ≡ m
  best_one os l m a b =
      let p : l.price ≡ m.price = neither side l.price m.price (unbeaten os l.price m.price a.some b.none) (unbeaten os m.price l.price b.some a.none) in
      let s : l.shares ≡ m.shares = a.shares ∙ ap (λ (x : ℕ). sum (at_price symbol side x) os) p ∙ sym b.shares in
      let n : l.orders ≡ m.orders = a.orders ∙ ap (λ (x : ℕ). count (at_price symbol side x) os) p ∙ sym b.orders in
      (λ i. record { price = p i; shares = s i; orders = n i })

  -- ---- what is worked out

  -- no order of that symbol and side and no level, or the best level
  abbrev Right : List Order → Level → Type 0
  Right os l = ((l.orders ≡ 0) × (count (is_of symbol side) os ≡ 0)) ⊎ Best symbol side os l

  out : (x y : Bool) → x ≡ false → (x && y) ≡ false
  out true y e = no (sym e)
  out false y e = refl

  -- an order of another symbol or side
  passed : (o : Order) (os : List Order) (l : Level) → is_of symbol side o ≡ false → Right os l → Right (o ∷ os) l
  passed o os l e r =
      let at = out (is_of symbol side o) (eqb o.price l.price) e in
      let bt = out (is_of symbol side o) (better side o.price l.price) e in
      ⊎_elim
      (λ (z : (l.orders ≡ 0) × (count (is_of symbol side) os ≡ 0)). inl (z.0, omega (arith, tally (is_of symbol side) o os e, z.1)))
      (λ (b : Best symbol side os l). inr (same at bt b))
      r
    where
      same : at_price symbol side l.price o ≡ false → beats symbol side l.price o ≡ false → Best symbol side os l → Best symbol side (o ∷ os) l
      same at bt b =
          record {
            some = omega (arith, tally (at_price symbol side l.price) o os at, b.some);
            none = omega (arith, tally (beats symbol side l.price) o os bt, b.none);
            shares = omega (arith, total (at_price symbol side l.price) o os at, b.shares);
            orders = omega (arith, tally (at_price symbol side l.price) o os at, b.orders);
          }

  -- an order by itself at its price, with none better
  module _ (o : Order) (os : List Order) (of : is_of symbol side o ≡ true) where
    only : count (at_price symbol side o.price) os ≡ 0 → count (beats symbol side o.price) os ≡ 0 → Best symbol side (o ∷ os) (alone o)
    only zero none =
        let at : at_price symbol side o.price o ≡ true = ap₂ ◌&&◌ of (eq-eqb o.price o.price refl) in
        let bt : beats symbol side o.price o ≡ false = ap₂ ◌&&◌ of (itself side o.price) in
        let rest = nothing (at_price symbol side o.price) os zero in
        record {
          some = omega (arith, tally (at_price symbol side o.price) o os at);
          none = omega (arith, tally (beats symbol side o.price) o os bt);
          shares = omega (arith, total (at_price symbol side o.price) o os at);
          orders = omega (arith, tally (at_price symbol side o.price) o os at);
        }

    first : count (is_of symbol side) os ≡ 0 → Best symbol side (o ∷ os) (alone o)
    first zero =
        only
        (omega (arith, fewer (at_price symbol side o.price) (is_of symbol side) (λ x a. and_left (is_of symbol side x) (eqb x.price o.price) a) os))
        (omega (arith, fewer (beats symbol side o.price) (is_of symbol side) (λ x a. and_left (is_of symbol side x) (better side x.price o.price) a) os))

    module _ (l : Level) (b : Best symbol side os l) where
      ahead : better side o.price l.price ≡ true → Best symbol side (o ∷ os) (alone o)
      ahead e =
          only
          (omega (
            arith,
            b.none,
            fewer (at_price symbol side o.price) (beats symbol side l.price)
                (λ x a. ap₂ ◌&&◌ (and_left (is_of symbol side x) (eqb x.price o.price) a) (subst (λ (y : ℕ). better side y l.price ≡ true) (sym (eqb-true x.price o.price (and_right (is_of symbol side x) (eqb x.price o.price) a))) e)) os,
          ))
          (omega (
            arith,
            b.none,
            fewer (beats symbol side o.price) (beats symbol side l.price)
                (λ x a. ap₂ ◌&&◌ (and_left (is_of symbol side x) (better side x.price o.price) a) (beyond side x.price o.price l.price (and_right (is_of symbol side x) (better side x.price o.price) a) e)) os,
          ))

      beside : better side o.price l.price ≡ false → o.price ≡ l.price → Best symbol side (o ∷ os) (together o l)
      beside worse e =
          let at : at_price symbol side l.price o ≡ true = ap₂ ◌&&◌ of (eq-eqb o.price l.price e) in
          let bt : beats symbol side l.price o ≡ false = ap₂ ◌&&◌ of worse in
          record {
            some = omega (arith, tally (at_price symbol side l.price) o os at);
            none = omega (arith, tally (beats symbol side l.price) o os bt, b.none);
            shares = omega (arith, total (at_price symbol side l.price) o os at, b.shares);
            orders = omega (arith, tally (at_price symbol side l.price) o os at, b.orders);
          }

      behind : better side o.price l.price ≡ false → eqb o.price l.price ≡ false → Best symbol side (o ∷ os) l
      behind worse e =
          let at : at_price symbol side l.price o ≡ false = ap₂ ◌&&◌ of e in
          let bt : beats symbol side l.price o ≡ false = ap₂ ◌&&◌ of worse in
          record {
            some = omega (arith, tally (at_price symbol side l.price) o os at, b.some);
            none = omega (arith, tally (beats symbol side l.price) o os bt, b.none);
            shares = omega (arith, total (at_price symbol side l.price) o os at, b.shares);
            orders = omega (arith, tally (at_price symbol side l.price) o os at, b.orders);
          }

  -- a level of no orders is none
  empty : (os : List Order) (l : Level) → Right os l → l.orders ≡ 0 → count (is_of symbol side) os ≡ 0
  empty os l r e =
      ⊎_elim
      (λ (z : (l.orders ≡ 0) × (count (is_of symbol side) os ≡ 0)). z.1)
      (λ (b : Best symbol side os l). absurd (omega (arith, b.some, b.orders)))
      r

  filled : (os : List Order) (l : Level) → Right os l → l.orders ≢ 0 → Best symbol side os l
  filled os l r e =
      ⊎_elim
      (λ (z : (l.orders ≡ 0) × (count (is_of symbol side) os ≡ 0)). absurd (e z.0))
      (λ (b : Best symbol side os l). b)
      r

  right : (os : List Order) → Right os (best_in symbol side os)
  unfolding best_in joined count
  right [] = inl (refl, refl)
  right (o ∷ os) =
      let l = best_in symbol side os in
      let r = right os in
      pick (Right (o ∷ os)) (not (is_of symbol side o)) (λ e. passed o os l (not-true _ e) r)
      λ of. pick (Right (o ∷ os)) (eqb l.orders 0) (λ e. inr (first o os (not-false _ of) (empty os l r (eqb-true _ _ e))))
      λ some. pick (Right (o ∷ os)) (better side o.price l.price) (λ e. inr (ahead o os (not-false _ of) l (filled os l r (eqb-false _ _ some)) e))
      λ worse. pick (Right (o ∷ os)) (eqb o.price l.price)
      (λ e. inr (beside o os (not-false _ of) l (filled os l r (eqb-false _ _ some)) worse (eqb-true _ _ e)))
      (λ e. inr (behind o os (not-false _ of) l (filled os l r (eqb-false _ _ some)) worse e))

  -- the level that is worked out is the best, unless no such order is live; then it has no orders
  pub best_is : (os : List Order) → (best_in symbol side os).orders ≢ 0 → Best symbol side os (best_in symbol side os)
  best_is os = filled os (best_in symbol side os) (right os)

  pub best_empty : (os : List Order) → (best_in symbol side os).orders ≡ 0 → count (is_of symbol side) os ≡ 0
  best_empty os = empty os (best_in symbol side os) (right os)

  -- and where no such order is live, no level is the best
  pub none_best : (os : List Order) (l : Level) → count (is_of symbol side) os ≡ 0 → Best symbol side os l → ⊥
  none_best os l zero b =
      omega (arith, b.some, fewer (at_price symbol side l.price) (is_of symbol side) (λ x a. and_left (is_of symbol side x) (eqb x.price l.price) a) os)

  -- 13 exactly where no such order is live
  pub empty_best : (os : List Order) → count (is_of symbol side) os ≡ 0 → (best_in symbol side os).orders ≡ 0
  empty_best os zero = split (best_in symbol side os).orders 0 (λ e. e) (λ n. absurd (none_best os (best_in symbol side os) zero (best_is os n)))

  -- ---- the answer in the customer's words

  module _ (t : Tables) (good : (good_symbol symbol && good_side side) ≡ true) where
    pub best_answer : (l : Level) → Best symbol side t.orders l → best_asked t symbol side ≡ Ok l
    unfolding best_for reply_with
    best_answer l b =
        let some : (best_in symbol side t.orders).orders ≢ 0 = λ e. none_best t.orders l (best_empty t.orders e) b in
        let same : best_in symbol side t.orders ≡ l = best_one t.orders (best_in symbol side t.orders) l (best_is t.orders some) b in
        let filled-l : l.orders ≢ 0 = λ e. omega (arith, b.some, b.orders) in
        simp (good, same, ne_eqb _ _ filled-l)

    pub best_none_live : count (is_of symbol side) t.orders ≡ 0 → best_asked t symbol side ≡ Err NotThere
    unfolding best_for reply_with
    best_none_live zero = simp (good, eq-eqb _ _ (empty_best t.orders zero))
