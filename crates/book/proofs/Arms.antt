-- The effect of each type, from the fields that it reads and the faults that can hold of it.
-- Assumes nothing.
use mathlib.Core.Path.{◌≡◌, refl, ap, ◌∙◌, sym, subst}
use mathlib.Core.Logic.{◌≢◌}
use mathlib.Core.Bool.{Bool, true, false, cond, not, ◌&&◌}
use mathlib.Core.List.{List, [], ◌∷◌}
use Prim.Native.Nat.{ℕ, ◌-◌, ◌≤◌}
use native.Mathlib.Omega.{arith}
use borrow.Author.Tests.{leb-true, ne_eqb}
use lib.Dec.{eqb, leb, ltb}
use Rattle.std.specs.Prelude.{Option}
use Rattle.book.specs.declared.deciding.Reason.TheVariants as why
use Rattle.wire.specs.Choice.{first_of}
use Rattle.wire.specs.Number.{part}
use Rattle.fields.specs.Id.{good_id, is_value, number_of}
use Rattle.fields.specs.Rules.{good_symbol, good_side, good_trade_side, good_quantity, good_price, good_inside_price, good_unsolicited, good_session}
use Rattle.message.specs.Layouts as layouts
use Rattle.message.specs.Layouts.{layout_of, type_in}
use Rattle.message.specs.Row.{fields_of, message_of, row_in, add_in, execution_in, priced_in, top_in, trade_in, trading_session_in, update_in}
use Rattle.message.specs.Rules.{broken_by, broken_of}
use Rattle.message.specs.Table.{payload_of}
use Rattle.message.specs.declared.kinds.Message.{Message}
use Rattle.message.specs.declared.layouts.AddFields.{AddFields}
use Rattle.message.specs.declared.layouts.ExecutionFields.{ExecutionFields}
use Rattle.message.specs.declared.layouts.PricedFields.{PricedFields}
use Rattle.message.specs.declared.layouts.TopFields.{TopFields}
use Rattle.message.specs.declared.layouts.TradeFields.{TradeFields}
use Rattle.message.specs.declared.layouts.TradingSessionFields.{TradingSessionFields}
use Rattle.message.specs.declared.layouts.UpdateFields.{UpdateFields}
use Rattle.fields.proofs.Ids.{value_good}
use Rattle.fields.proofs.Tests.{and_left, and_right}
use Rattle.message.proofs.Cases.{Unopened, unopened}
use Rattle.book.specs.Lookup.{is_at, place_found}
use Rattle.book.specs.Applying.{Seen, message_in, effect_of, execution_of, is_listed, unlisted_under}
use Rattle.book.specs.declared.deciding.Effect.{Effect}
use Rattle.book.specs.declared.deciding.Effect.TheVariants.{Put, Replace, Remove, Renew, Enter, Record, Unchanged, Fault}
use Rattle.book.proofs.Types.{no}

module _ (s : List ℕ) (seen : Seen) where
  pub session_is : {fields : TradingSessionFields} {broken : ℕ} → fields ≡ trading_session_in (row_in layouts.trading_session s) → broken ≡ broken_by 20 (good_session fields.session ∷ [])
      → first_of ((not (eqb broken 0), Fault why.RuleBroken) ∷ []) (Record fields.session) ≡ effect_of seen (fields_of 20 s)
  unfolding effect_of fields_of message_of layout_of payload_of broken_of
  session_is read b = rw (b, read)

  pub trade-is : {fields : TradeFields} {broken : ℕ} → fields ≡ trade_in (row_in layouts.trade s)
      → broken ≡ broken_by 27 (good_trade_side fields.deal.side ∷ good_quantity fields.deal.quantity ∷ good_symbol fields.deal.symbol ∷ good_price fields.deal.price ∷ [])
      → first_of ((not (eqb broken 0), Fault why.RuleBroken) ∷ []) Unchanged ≡ effect_of seen (fields_of 27 s)
  unfolding effect_of fields_of message_of layout_of payload_of broken_of
  trade-is read b = rw (b, read)

  pub top-is : {inside : Option ℕ} {held : ℕ} → seen.inside ≡ inside → seen.held ≡ held → {fields : TopFields} {broken : ℕ} → fields ≡ top_in (row_in layouts.top s)
      → broken ≡ broken_by 26 (good_symbol fields.symbol ∷ good_inside_price fields.ask.price ∷ good_inside_price fields.bid.price ∷ good_unsolicited fields.unsolicited ∷ [])
      → first_of ((not (eqb broken 0), Fault why.RuleBroken) ∷ (not (is_at inside) && leb 64 held, Fault why.InsidesFull) ∷ []) (cond (is_at inside) (Renew (place_found inside)) Enter)
      ≡ effect_of seen (fields_of 26 s)
  unfolding effect_of fields_of message_of layout_of payload_of broken_of
  top-is i h read b = rw (b, read, sym i, sym h)

  -- 21 to 25: an id is good exactly where it has a value
  module _ {key : ℕ} (value : key ≡ number_of (part s 7 14)) {named : Bool} (asked : named ≡ is_value key) where
    named_good : named ≡ good_id (part s 7 14)
    named_good = asked ∙ value_good (part s 7 14) value

    module _ {order : Option ℕ} (o : seen.order ≡ order) where
      pub add_is : {live : ℕ} → seen.live ≡ live → {fields : AddFields} {broken : ℕ} → fields ≡ add_in (row_in layouts.add s)
          → broken ≡ broken_by 21 (named ∷ good_side fields.deal.side ∷ good_quantity fields.deal.quantity ∷ good_symbol fields.deal.symbol ∷ good_price fields.deal.price ∷ good_unsolicited fields.unsolicited ∷ [])
          → first_of ((not (eqb broken 0), Fault why.RuleBroken) ∷ (is_at order, Fault why.AlreadyLive) ∷ (leb 256 live, Fault why.OrdersFull) ∷ []) Put ≡ effect_of seen (fields_of 21 s)
      unfolding effect_of fields_of message_of layout_of payload_of broken_of
      add_is l read b = rw (b, named_good, read, sym o, sym l)

      pub update-is : {fields : UpdateFields} {broken : ℕ} → fields ≡ update_in (row_in layouts.update s)
          → broken ≡ broken_by 22 (named ∷ good_quantity fields.quantity ∷ good_price fields.price ∷ [])
          → first_of ((not (eqb broken 0), Fault why.RuleBroken) ∷ (not (is_at order), Fault why.NotLive) ∷ []) (Replace (place_found order) fields.quantity fields.price) ≡ effect_of seen (fields_of 22 s)
      unfolding effect_of fields_of message_of layout_of payload_of broken_of
      update-is read b = rw (b, named_good, read, sym o)

      pub delete-is : {broken : ℕ} → broken ≡ broken_by 23 (named ∷ [])
          → first_of ((not (eqb broken 0), Fault why.RuleBroken) ∷ (not (is_at order), Fault why.NotLive) ∷ []) (Remove (place_found order)) ≡ effect_of seen (fields_of 23 s)
      unfolding effect_of fields_of message_of layout_of payload_of broken_of
      delete-is b = rw (b, named_good, sym o)

      module _ {shares price : ℕ} (q : seen.shares ≡ shares) (p : seen.price ≡ price) where
        abbrev judged : ℕ → ℕ → ℕ → Effect
        judged broken executed remaining =
            first_of
            ((not (eqb broken 0), Fault why.RuleBroken)
            ∷ (not (is_at order), Fault why.NotLive)
            ∷ (ltb shares executed, Fault why.ExecutedTooMuch)
            ∷ (not (eqb remaining (shares - executed)), Fault why.WrongRemaining)
            ∷ [])
            (execution_of order shares price executed)

        pub execution-is : {fields : ExecutionFields} {broken : ℕ} → fields ≡ execution_in (row_in layouts.execution s)
            → broken ≡ broken_by 24 (named ∷ good_quantity fields.executed ∷ []) → judged broken fields.executed fields.remaining ≡ effect_of seen (fields_of 24 s)
        unfolding effect_of fields_of message_of layout_of payload_of broken_of
        execution-is read b = rw (b, named_good, read, sym o, sym q, sym p)

        pub priced-is : {fields : PricedFields} {broken : ℕ} → fields ≡ priced_in (row_in layouts.priced s)
            → broken ≡ broken_by 25 (named ∷ good_quantity fields.execution.executed ∷ good_price fields.price ∷ []) → judged broken fields.execution.executed fields.execution.remaining ≡ effect_of seen (fields_of 25 s)
        unfolding effect_of fields_of message_of layout_of payload_of broken_of
        priced-is read b = rw (b, named_good, read, sym o, sym q, sym p)

  -- the types that change nothing
  pub quiet_9 : Unchanged ≡ effect_of seen (fields_of 9 s)
  unfolding effect_of fields_of message_of layout_of payload_of broken_of
  quiet_9 = refl

  pub quiet_11 : Unchanged ≡ effect_of seen (fields_of 11 s)
  unfolding effect_of fields_of message_of layout_of payload_of broken_of
  quiet_11 = refl

  pub quiet_12 : Unchanged ≡ effect_of seen (fields_of 12 s)
  unfolding effect_of fields_of message_of layout_of payload_of broken_of
  quiet_12 = refl

  pub quiet_28 : Unchanged ≡ effect_of seen (fields_of 28 s)
  unfolding effect_of fields_of message_of layout_of payload_of broken_of
  quiet_28 = refl

  -- a type that is known
  pub typed : (k : ℕ) {t : ℕ} {e : Effect} → t ≡ type_in s → t ≡ k → e ≡ effect_of seen (fields_of k s) → e ≡ effect_of seen (message_in s)
  typed k is e h = h ∙ ap (λ (j : ℕ). effect_of seen (fields_of j s)) (sym e ∙ is)

  -- no such type names an order
  unnamed : (low t : ℕ) → 22 ≤ low → Unopened t → (leb low t && leb t 25) ≡ false
  unnamed low t from h = by (leb low t && leb t 25) refl
    where
      by : (b : Bool) → (leb low t && leb t 25) ≡ b → b ≡ false
      by false e = refl
      by true e =
          let lo = leb-true low t (and_left (leb low t) (leb t 25) e) in
          let hi = leb-true t 25 (and_right (leb low t) (leb t 25) e) in
          absurd (omega (arith, lo, hi, from, h.0.0.0.0.0.1, h.0.0.0.0.1, h.0.0.0.1, h.0.0.1))

  unlisted_at : (t : ℕ) → Unopened t → t ≢ 28 → unlisted_under seen.rule ≡ effect_of seen (fields_of t s)
  unfolding effect_of payload_of broken_of
  unlisted_at t h n =
      subst (λ (m : Message). unlisted_under seen.rule ≡ effect_of seen m) (unopened t s h)
      (simp (ne_eqb t 9 h.0.0.0.0.0.0.0.0.0.0.1, ne_eqb t 11 h.0.0.0.0.0.0.0.0.0.1, ne_eqb t 12 h.0.0.0.0.0.0.0.0.1, ne_eqb t 20 h.0.0.0.0.0.0.0.1, ne_eqb t 21 h.0.0.0.0.0.0.1, ne_eqb t 22 h.0.0.0.0.0.1, ne_eqb t 23 h.0.0.0.0.1, ne_eqb t 24 h.0.0.0.1, ne_eqb t 25 h.0.0.1, ne_eqb t 26 h.0.1, ne_eqb t 27 h.1, ne_eqb t 28 n, unnamed 22 t (omega arith) h, unnamed 24 t (omega arith) h))

  -- a type that is not in the table is none of those in it
  pub unlisted_by : (t : ℕ) → t ≡ type_in s → is_listed t ≡ false → unlisted_under seen.rule ≡ effect_of seen (message_in s)
  unfolding payload_of
  unlisted_by t is out =
      typed t is refl
      (unlisted_at t
      (((((((((((tt, aside 9 refl), aside 11 refl), aside 12 refl), aside 20 refl), aside 21 refl), aside 22 refl), aside 23 refl), aside 24 refl), aside 25 refl), aside 26 refl), aside 27 refl)
      (aside 28 refl))
    where
      aside : (k : ℕ) → is_listed k ≡ true → t ≢ k
      aside k listed e = no (sym out ∙ ap is_listed e ∙ listed)
