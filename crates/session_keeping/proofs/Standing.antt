-- What stands until the next opening, whatever is called: the first fault, the rule that the opening chose; and what is counted apart.
-- Assumes nothing.
use mathlib.Core.Path.{◌≡◌, refl, ap, ap₂, ◌∙◌, sym, subst}
use mathlib.Core.Bool.{Bool, true, false, cond, not, ◌&&◌}
use mathlib.Core.List.{List, ◌++◌}
use mathlib.Core.Option.{Option, none, some}
use Prim.Native.Nat.{ℕ, zero, suc, ◌+◌, ◌-◌, ◌≤◌, ◌<◌}
use native.Mathlib.Omega.{arith}
use borrow.Author.Tests.{eqb-true}
use lib.Dec.{eqb}
use Rattle.merge.specs.State.{Call, call_all, count_from, opened}
use Rattle.merge.specs.History.{accepted, applied, first_copy, running, tables_of}
use Rattle.merge.proofs.Demand3.{call_more}
use Rattle.book.specs.Applying.{apply_of, carried, effect_in, faulted, is_apart, is_listed, message_in}
use Rattle.message.specs.Layouts.{type_in}
use Rattle.book.specs.Reasons.{reason_number}
use Rattle.book.specs.Tables.{Tables, fresh}
use Rattle.book.specs.declared.tables.Faults.{Faults}
use Rattle.book.specs.declared.tables.OpeningRule.{OpeningRule}
use Rattle.book.specs.declared.tables.OpeningRule.TheVariants.{Strict}
use Rattle.book.specs.declared.deciding.Effect.{Effect}
use Rattle.book.specs.declared.deciding.Effect.TheVariants.{Put, Replace, Remove, Renew, Enter, Record, Unchanged, Fault, CountApart}
use Rattle.book.proofs.Laws.{apart_grows, rule_stays}
use Rattle.session.specs.Meaning.{Held, Meaning, feed, overnight, view}
use Rattle.session.proofs.Through.{by_calls}
use Rattle.session_keeping.specs.Counting.{apart_if, apart_of}
use Rattle.session_keeping.proofs.Demand3.{means, session_demand3}
use Rattle.session_keeping.proofs.Given.{Given}

-- ---- the record of faults

-- the first fault's number and reason stay, and the count never falls
pub record Stood (before after : Faults) : Type 0 where
  pub count : before.count ≤ after.count
  pub first : 0 < before.count → (after.number ≡ before.number) × (after.reason ≡ before.reason)

stood : (f : Faults) → Stood f f
stood f = record { count = omega arith; first = λ any. (refl, refl) }

stood_more : {f g h : Faults} → Stood f g → Stood g h → Stood f h
stood_more p q =
    record {
      count = omega (arith, p.count, q.count);
      first = λ any. let a = p.first any in let b = q.first (omega (arith, p.count)) in (b.0 ∙ a.0, b.1 ∙ a.1);
    }

fault_stood : (f : Faults) (number reason : ℕ) → Stood f (faulted f number reason)
unfolding faulted
fault_stood f number reason = go (eqb f.count 0) refl
  where
    go : (b : Bool) → eqb f.count 0 ≡ b → Stood f (cond b (record { number = number; count = 1; reason = reason }) (record { number = f.number; count = f.count + 1; reason = f.reason }))
    go true e = record { count = omega (arith, eqb-true f.count 0 e); first = λ any. absurd (omega (arith, eqb-true f.count 0 e)) }
    go false e = record { count = omega arith; first = λ any. (refl, refl) }

apply_stood : (t : Tables) (number : ℕ) (s : List ℕ) → Stood t.faults (apply_of t number s).faults
unfolding apply_of
apply_stood t number s = go (effect_in t s)
  where
    go : (e : Effect) → Stood t.faults (carried t number (message_in s) e).faults
    go Put = stood t.faults
    go (Replace place shares price) = stood t.faults
    go (Remove place) = stood t.faults
    go (Renew place) = stood t.faults
    go Enter = stood t.faults
    go (Record code) = stood t.faults
    go Unchanged = stood t.faults
    go (Fault reason) = fault_stood t.faults number (reason_number reason)
    go CountApart = stood t.faults

pub faults_stand : {rule : OpeningRule} {n : ℕ} → n ≤ 4294967295 → {calls : List (Call (List ℕ))} (more : List (Call (List ℕ))) {s t : Held} → Given rule n calls s → Given rule n (calls ++ more) t
    → Stood (view s).tables.faults (view t).tables.faults
faults_stand {rule} {n} small {calls} more {s} {t} g h =
    let later : view t ≡ call_all overnight (view s) more =
    means small h ∙ call_more overnight n calls more (opened (fresh rule) n) ∙ ap (λ (x : Meaning). call_all overnight x more) (sym (means small g)) in
    subst (λ (x : Meaning). Stood (view s).tables.faults x.tables.faults) (sym later)
    (by_calls (λ a b. Stood a.faults b.faults) (λ a. stood a.faults) (λ a b c p q. stood_more p q) apply_stood more (view s))

-- ---- the rule, and what is counted apart

-- the rule is the one that the opening chose
pub rule_stands : {rule : OpeningRule} {n : ℕ} → n ≤ 4294967295 → {calls : List (Call (List ℕ))} {s : Held} → Given rule n calls s → (view s).tables.unlisted.rule ≡ rule
unfolding opened
rule_stands {rule} {n} small {calls} {s} g =
    ap (λ (x : Meaning). x.tables.unlisted.rule) (means small g)
    ∙ by_calls (λ a b. b.unlisted.rule ≡ a.unlisted.rule) (λ a. refl) (λ a b c p q. q ∙ p) rule_stays calls (opened (fresh rule) n)

-- one number more, at the end of those that are counted
count_last : (test : ℕ → Bool) (k c : ℕ) → count_from test k (suc c) ≡ count_from test k c + cond (test (k + c)) 1 0
unfolding count_from
count_last test k zero = let e : k + 0 ≡ k = omega arith in ap (λ (j : ℕ). cond (test j) 1 0 + 0) (sym e) ∙ omega arith
count_last test k (suc c) =
    let e : k + 1 + c ≡ k + suc c = omega arith in
    ap (λ (n : ℕ). cond (test k) 1 0 + n) (count_last test (k + 1) c ∙ ap (λ (j : ℕ). count_from test (k + 1) c + cond (test j) 1 0) e)
    ∙ omega arith

module _ (rule : OpeningRule) (copies : ℕ → Option (List ℕ)) (s : ℕ) where
  abbrev at : ℕ → Tables
  at c = running feed (fresh rule) copies s c

  rule_at : (c : ℕ) → (at c).unlisted.rule ≡ rule
  unfolding running
  rule_at zero = refl
  rule_at (suc c) = go (copies (s + c)) ∙ rule_at c
    where
      go : (o : Option (List ℕ)) → (applied feed (at c) (s + c) o).unlisted.rule ≡ (at c).unlisted.rule
      go none = refl
      go (some m) = rule_stays (at c) (s + c) m

  one_apart : (t : Tables) → t.unlisted.rule ≡ rule → (k : ℕ) (o : Option (List ℕ)) → (applied feed t k o).unlisted.count ≡ t.unlisted.count + cond (apart_if rule o) 1 0
  one_apart t chosen k none = omega arith
  one_apart t chosen k (some m) = apart_grows t k m ∙ ap (λ (r : OpeningRule). t.unlisted.count + cond (is_apart r m) 1 0) chosen

  counted_apart_lem : (c : ℕ) → (at c).unlisted.count ≡ count_from (λ k. apart_if rule (copies k)) s c
  unfolding running count_from
  counted_apart_lem zero = refl
  counted_apart_lem (suc c) =
      one_apart (at c) (rule_at c) (s + c) (copies (s + c))
      ∙ ap (λ (n : ℕ). n + cond (apart_if rule (copies (s + c))) 1 0) (counted_apart_lem c)
      ∙ sym (count_last (λ k. apart_if rule (copies k)) s c)

-- so many messages were counted apart: of the numbers from the opening to next - 1, those whose first accepted copy has a type that is
-- not in the table, where the rule is not the strict one
pub apart_counts : {rule : OpeningRule} {n : ℕ} → n ≤ 4294967295 → {calls : List (Call (List ℕ))} {s : Held} → Given rule n calls s
    → (view s).tables.unlisted.count ≡ apart_of rule (accepted overnight (opened (fresh rule) n) calls) n (view s).next
unfolding tables_of apart_of
apart_counts {rule} {n} small {calls} {s} g =
    ap (λ (t : Tables). t.unlisted.count) (session_demand3 small g).tables
    ∙ counted_apart_lem rule (first_copy (accepted overnight (opened (fresh rule) n) calls)) n ((view s).next - n)

-- under the strict rule none is
none_strict : (o : Option (List ℕ)) → apart_if Strict o ≡ false
none_strict none = refl
none_strict (some m) = never (not (is_listed (type_in m)))
  where
    never : (b : Bool) → (b && false) ≡ false
    never true = refl
    never false = refl

none_counted : (test : ℕ → Bool) → ((k : ℕ) → test k ≡ false) → (k c : ℕ) → count_from test k c ≡ 0
unfolding count_from
none_counted test fails k zero = refl
none_counted test fails k (suc c) = ap₂ (λ (b : Bool) (n : ℕ). cond b 1 0 + n) (fails k) (none_counted test fails (k + 1) c)

pub strict_none : {n : ℕ} → n ≤ 4294967295 → {calls : List (Call (List ℕ))} {s : Held} → Given Strict n calls s → (view s).tables.unlisted.count ≡ 0
unfolding apart_of
strict_none {n} small {calls} {s} g =
    apart_counts small g
    ∙ none_counted (λ k. apart_if Strict (first_copy (accepted overnight (opened (fresh Strict) n) calls) k)) (λ k. none_strict (first_copy (accepted overnight (opened (fresh Strict) n) calls) k)) n ((view s).next - n)
