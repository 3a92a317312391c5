-- What an effect tells: of what message it can come, and what the look-ups found.
-- Assumes nothing.
use mathlib.Core.Path.{◌≡◌, refl, ap, ◌∙◌, sym, subst}
use mathlib.Core.Logic.{◌≢◌, ◌⊎◌, inl, inr}
use mathlib.Core.Bool.{Bool, true, false, cond, not, ◌&&◌}
use Prim.Native.Nat.{ℕ, ◌-◌, ◌≤◌, ◌<◌}
use native.Mathlib.Omega.{arith}
use borrow.Author.Tests.{eqb-true, eqb-false, leb-false, not-false}
use lib.Dec.{eqb, leb, ltb}
use Rattle.book.specs.declared.deciding.Reason.TheVariants as why
use Rattle.book.specs.declared.deciding.Reason.{Reason}
use Rattle.wire.specs.Layout.{number_in}
use Rattle.fields.proofs.Tests.{and_right}
use Rattle.message.specs.Row.{type_of, row_of}
use Rattle.message.specs.Rules.{good_message}
use Rattle.message.specs.declared.kinds.Message.{Message}
use Rattle.book.specs.Lookup.{is_at, place_found}
use Rattle.book.specs.Applying.{Seen, names, executes, is_listed, is_strict, change_of, effect_of}
use Rattle.book.specs.Named.{is_fault}
use Rattle.book.specs.Reasons.{reason_number}
use Rattle.book.specs.declared.deciding.Effect.{Effect}
use Rattle.book.specs.declared.deciding.Effect.TheVariants.{Put, Replace, Remove, Renew, Enter, Record, Unchanged, Fault, CountApart}
use Rattle.book.proofs.Types.{no, pick}

-- the place of the order that the message names
pub record AtOrder (seen : Seen) (at : ℕ) : Type 0 where
  pub there : is_at seen.order ≡ true
  pub place : at ≡ place_found seen.order

-- an Update's shares and price
pub record Updated (m : Message) (q p : ℕ) : Type 0 where
  pub type : type_of m ≡ 22
  pub shares : q ≡ number_in (row_of m) 2
  pub price : p ≡ number_in (row_of m) 3

-- what an execution leaves: some of the shares, at the price that the order has
pub record Lowered (seen : Seen) (q p : ℕ) : Type 0 where
  pub some : 1 ≤ q
  pub fewer : q ≤ seen.shares
  pub price : p ≡ seen.price

pub record Placed (seen : Seen) (m : Message) : Type 0 where
  pub type : type_of m ≡ 21
  pub absent : is_at seen.order ≡ false
  pub few : seen.live < 256

pub record Held (seen : Seen) (m : Message) (at : ℕ) : Type 0 where
  pub type : type_of m ≡ 26
  pub there : is_at seen.inside ≡ true
  pub place : at ≡ place_found seen.inside

pub record Entered (seen : Seen) (m : Message) : Type 0 where
  pub type : type_of m ≡ 26
  pub absent : is_at seen.inside ≡ false
  pub few : seen.held < 64

pub record Coded (m : Message) (c : ℕ) : Type 0 where
  pub type : type_of m ≡ 20
  pub code : c ≡ number_in (row_of m) 1

abbrev pub Change : Seen → Message → Effect → Type 0
Change seen m Put = Placed seen m
Change seen m (Replace place shares price) = AtOrder seen place × (Updated m shares price ⊎ Lowered seen shares price)
Change seen m (Remove place) = AtOrder seen place
Change seen m (Renew place) = Held seen m place
Change seen m Enter = Entered seen m
Change seen m (Record code) = Coded m code
Change seen m Unchanged = Unit {0}
Change seen m (Fault reason) = reason_number reason ≡ 1 → is_strict seen.rule ≡ true
Change seen m CountApart = (is_listed (type_of m) ≡ false) × (is_strict seen.rule ≡ false)

-- a change that is no fault comes of a message that breaks no rule
abbrev pub Good : Message → Effect → Type 0
Good m Put = good_message m ≡ true
Good m (Replace place shares price) = good_message m ≡ true
Good m (Remove place) = good_message m ≡ true
Good m (Renew place) = good_message m ≡ true
Good m Enter = good_message m ≡ true
Good m (Record code) = good_message m ≡ true
Good m Unchanged = good_message m ≡ true
Good m (Fault reason) = Unit {0}
Good m CountApart = good_message m ≡ true

pub right : (a b : Bool) → a ≡ true → (a && b) ≡ false → b ≡ false
right true b e h = h
right false b e h = no e

module _ (seen : Seen) (m : Message) where
  abbrev type : ℕ
  type = type_of m

  abbrev Told : Effect → Type 0
  Told e = Good m e × Change seen m e

  module _ (one : (not (is_listed type) && is_strict seen.rule) ≡ false)
      (good : good_message m ≡ true)
      (three : (eqb type 21 && is_at seen.order) ≡ false)
      (four : (eqb type 21 && leb 256 seen.live) ≡ false)
      (five : (names type && not (is_at seen.order)) ≡ false)
      (six : (executes type && ltb seen.shares (number_in (row_of m) 2)) ≡ false)
      (eight : (eqb type 26 && (not (is_at seen.inside) && leb 64 seen.held)) ≡ false) where
    at_order : names type ≡ true → AtOrder seen (place_found seen.order)
    at_order e = record { there = not-false _ (right (names type) _ e five); place = refl }

    execution : (k : ℕ) → type ≡ k → names k ≡ true → Told (cond (eqb (seen.shares - number_in (row_of m) 2) 0) (Remove (place_found seen.order)) (Replace (place_found seen.order) (seen.shares - number_in (row_of m) 2) seen.price))
    execution k e n =
        let at : AtOrder seen (place_found seen.order) = at_order (ap names e ∙ n) in
        pick Told (eqb (seen.shares - number_in (row_of m) 2) 0)
        (λ z. (good, at))
        (λ z. let h : seen.shares - number_in (row_of m) 2 ≢ 0 = eqb-false _ _ z in (good, (at, inr (record { some = omega arith; fewer = omega arith; price = refl }))))

    inside : type ≡ 26 → Told (cond (is_at seen.inside) (Renew (place_found seen.inside)) Enter)
    inside e =
        let open-eight : (not (is_at seen.inside) && leb 64 seen.held) ≡ false = right (eqb type 26) _ (ap (λ (k : ℕ). eqb k 26) e) eight in
        pick Told (is_at seen.inside)
        (λ z. (good, record { type = e; there = z; place = refl }))
        (λ z. (good, record { type = e; absent = z; few = leb-false 64 seen.held (right (not (is_at seen.inside)) _ (ap not z) open-eight) }))

    change : Told (change_of seen m)
    change =
        pick Told (eqb type 20) (λ e. (good, record { type = eqb-true type 20 e; code = refl }))
        λ f. pick Told (eqb type 21) (λ e. (good, record { type = eqb-true type 21 e; absent = right (eqb type 21) _ e three; few = leb-false 256 seen.live (right (eqb type 21) _ e four) }))
        λ f. pick Told (eqb type 22) (λ e. (good, (at_order (ap names (eqb-true type 22 e)), inl (record { type = eqb-true type 22 e; shares = refl; price = refl }))))
        λ f. pick Told (eqb type 23) (λ e. (good, at_order (ap names (eqb-true type 23 e))))
        λ f. pick Told (eqb type 24) (λ e. execution 24 (eqb-true type 24 e) refl)
        λ f. pick Told (eqb type 25) (λ e. execution 25 (eqb-true type 25 e) refl)
        λ f. pick Told (eqb type 26) (λ e. inside (eqb-true type 26 e))
        λ f. pick Told (is_listed type) (λ e. (good, tt)) (λ e. (good, (e, right (not (is_listed type)) (is_strict seen.rule) (ap not e) one)))

  -- by the faults, one after the other: what holds of a fault, the first under the strict rule only, and of the change where no fault holds
  pub by_faults : (P : Effect → Type 0) → ((reason : Reason) → (reason_number reason ≡ 1 → is_strict seen.rule ≡ true) → P (Fault reason))
      → ((not (is_listed type) && is_strict seen.rule) ≡ false
      → good_message m ≡ true
      → (eqb type 21 && is_at seen.order) ≡ false
      → (eqb type 21 && leb 256 seen.live) ≡ false
      → (names type && not (is_at seen.order)) ≡ false
      → (executes type && ltb seen.shares (number_in (row_of m) 2)) ≡ false
      → (eqb type 26 && (not (is_at seen.inside) && leb 64 seen.held)) ≡ false
      → P (change_of seen m))
      → P (effect_of seen m)
  unfolding effect_of
  by_faults P fault rest =
      pick P (not (is_listed type) && is_strict seen.rule) (λ e. fault why.Unlisted (λ z. and_right (not (is_listed type)) (is_strict seen.rule) e))
      λ f1. pick P (not (good_message m)) (λ e. fault why.RuleBroken (λ z. cc))
      λ f2. pick P (eqb type 21 && is_at seen.order) (λ e. fault why.AlreadyLive (λ z. cc))
      λ f3. pick P (eqb type 21 && leb 256 seen.live) (λ e. fault why.OrdersFull (λ z. cc))
      λ f4. pick P (names type && not (is_at seen.order)) (λ e. fault why.NotLive (λ z. cc))
      λ f5. pick P (executes type && ltb seen.shares (number_in (row_of m) 2)) (λ e. fault why.ExecutedTooMuch (λ z. cc))
      λ f6. pick P (executes type && not (eqb (number_in (row_of m) 3) (seen.shares - number_in (row_of m) 2))) (λ e. fault why.WrongRemaining (λ z. cc))
      λ f7. pick P (eqb type 26 && (not (is_at seen.inside) && leb 64 seen.held)) (λ e. fault why.InsidesFull (λ z. cc))
      λ f8. rest f1 (not-false _ f2) f3 f4 f5 f6 f8

  pub told : Good m (effect_of seen m) × Change seen m (effect_of seen m)
  told = by_faults Told (λ reason one. (tt, one)) change

  -- where no fault holds, the effect is the change that the type makes
  pub unfaulted : is_fault (effect_of seen m) ≡ false → effect_of seen m ≡ change_of seen m
  unfaulted = by_faults (λ (e : Effect). is_fault e ≡ false → e ≡ change_of seen m) (λ reason one h. no (sym h)) (λ one g three four five six eight h. refl)

  -- what an effect that is known tells
  pub tells : {e : Effect} → effect_of seen m ≡ e → Good m e × Change seen m e
  tells h = subst Told h told
