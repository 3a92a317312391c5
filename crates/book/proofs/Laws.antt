-- What a message can never do: a fault changes nothing but the record of faults, what is counted apart nothing but its count; each count
-- grows by one at most, and the rule that the opening chose stays.
-- Assumes nothing.
use mathlib.Core.Path.{◌≡◌, refl, ap, ◌∙◌, sym}
use mathlib.Core.Bool.{Bool, true, false, cond, not, ◌&&◌}
use mathlib.Core.List.{List}
use Prim.Native.Nat.{ℕ, ◌+◌, ◌≤◌}
use native.Mathlib.Omega.{arith}
use borrow.Author.Tests.{ne_eqb}
use lib.Dec.{eqb}
use Rattle.book.specs.declared.deciding.Reason.{Reason}
use Rattle.book.specs.Reasons.{reason_number}
use Rattle.message.specs.Layouts.{type_in}
use Rattle.message.specs.Table.{payload_of}
use Rattle.message.specs.declared.kinds.Message.{Message}
use Rattle.book.specs.Tables.{Book, Tables, doubtful, with_faults, with_unlisted, view}
use Rattle.book.specs.Applying.{message_in, Seen, seen_of, effect_in, carried, apply_of, counted_apart, faulted, is_apart, is_listed, is_strict, unlisted_under}
use Rattle.book.specs.Rule.{Ready}
use Rattle.book.specs.declared.tables.Faults.{Faults}
use Rattle.book.specs.declared.tables.OpeningRule.{OpeningRule}
use Rattle.book.specs.declared.tables.OpeningRule.TheVariants.{Default, Strict}
use Rattle.book.specs.declared.deciding.Effect.{Effect}
use Rattle.book.specs.declared.deciding.Effect.TheVariants.{Put, Replace, Remove, Renew, Enter, Record, Unchanged, Fault, CountApart}
use Rattle.book.proofs.Arms.{unlisted_by}
use Rattle.book.proofs.Told.{tells}
use Rattle.book.proofs.Types.{no, pick, type_kept}

-- ---- a fault

module _ (t : Tables) (number : ℕ) (s : List ℕ) {reason : Reason} (fault : effect_in t s ≡ Fault reason) where
  -- all that a fault does
  pub fault_only : apply_of t number s ≡ with_faults t (faulted t.faults number (reason_number reason))
  unfolding apply_of
  fault_only = ap (carried t number (message_in s)) fault

module _ (t : Tables) (number : ℕ) (s : List ℕ) (apart : effect_in t s ≡ CountApart) where
  -- all that a message does which is counted apart
  pub apart_only : apply_of t number s ≡ with_unlisted t (counted_apart t.unlisted)
  unfolding apply_of
  apart_only = ap (carried t number (message_in s)) apart

-- a fault leaves the book doubtful
pub fault_doubts : (f : Faults) (number reason : ℕ) → doubtful (faulted f number reason) ≡ true
unfolding faulted
fault_doubts f number reason =
    pick (λ (g : Faults). doubtful g ≡ true) (eqb f.count 0) (λ e. refl) (λ e. ap not (ne_eqb (f.count + 1) 0 (λ z. absurd (omega arith))))

-- ---- types that are not in the table

module _ (t : Tables) (number : ℕ) (s : List ℕ) where
  abbrev seen : Seen
  seen = seen_of t (message_in s)

  abbrev rule : OpeningRule
  rule = t.unlisted.rule

  -- what such a message does under each rule
  pub unlisted_does : is_listed (type_in s) ≡ false → effect_in t s ≡ unlisted_under rule
  unfolding payload_of seen_of
  unlisted_does h = sym (unlisted_by s seen (type_in s) refl h)

  -- under the strict rule it is fault 1
  pub strict_faults : rule ≡ Strict → is_listed (type_in s) ≡ false → apply_of t number s ≡ with_faults t (faulted t.faults number 1)
  strict_faults e h = fault_only t number s (unlisted_does h ∙ ap unlisted_under e)

  -- by default it is counted apart, and changes nothing else
  pub default_apart : rule ≡ Default → is_listed (type_in s) ≡ false → apply_of t number s ≡ with_unlisted t (counted_apart t.unlisted)
  default_apart e h = apart_only t number s (unlisted_does h ∙ ap unlisted_under e)

  -- so it does not make the book doubtful
  pub default_doubts : rule ≡ Default → is_listed (type_in s) ≡ false → doubtful (apply_of t number s).faults ≡ doubtful t.faults
  default_doubts e h = ap (λ (u : Tables). doubtful u.faults) (default_apart e h)

  -- fault 1 is given under the strict rule only
  pub one_strict : {reason : Reason} → effect_in t s ≡ Fault reason → reason_number reason ≡ 1 → is_strict rule ≡ true
  unfolding seen_of
  one_strict e = (tells seen (message_in s) e).1

  -- nothing else is counted apart
  abbrev apart_of : Effect → ℕ
  apart_of Put = 0
  apart_of (Replace place shares price) = 0
  apart_of (Remove place) = 0
  apart_of (Renew place) = 0
  apart_of Enter = 0
  apart_of (Record code) = 0
  apart_of Unchanged = 0
  apart_of (Fault reason) = 0
  apart_of CountApart = 1

  adds : (e : Effect) → (carried t number (message_in s) e).unlisted.count ≡ t.unlisted.count + apart_of e
  adds Put = omega arith
  adds (Replace place shares price) = omega arith
  adds (Remove place) = omega arith
  adds (Renew place) = omega arith
  adds Enter = omega arith
  adds (Record code) = omega arith
  adds Unchanged = omega arith
  adds (Fault reason) = omega arith
  adds CountApart = refl

  -- so under each rule the count grows by this
  pub apart_grows : (apply_of t number s).unlisted.count ≡ t.unlisted.count + cond (is_apart rule s) 1 0
  unfolding apply_of
  apart_grows = adds (effect_in t s) ∙ ap (λ (n : ℕ). t.unlisted.count + n) (by (is_listed (type_in s)) refl)
    where
      under : (r : OpeningRule) → apart_of (unlisted_under r) ≡ cond (not (is_strict r)) 1 0
      under Default = refl
      under Strict = refl

      listed : (e : Effect) → effect_in t s ≡ e → is_listed (type_in s) ≡ true → apart_of e ≡ 0
      listed Put is h = refl
      listed (Replace place shares price) is h = refl
      listed (Remove place) is h = refl
      listed (Renew place) is h = refl
      listed Enter is h = refl
      listed (Record code) is h = refl
      listed Unchanged is h = refl
      listed (Fault reason) is h = refl
      listed CountApart is h = no (sym (ap is_listed (sym (type_kept (type_in s) s)) ∙ (tells seen (message_in s) is).1.0) ∙ h)

      by : (b : Bool) → is_listed (type_in s) ≡ b → apart_of (effect_in t s) ≡ cond (is_apart rule s) 1 0
      by true h = listed (effect_in t s) refl h ∙ sym (ap (λ (b : Bool). cond (not b && not (is_strict rule)) 1 0) h)
      by false h = ap apart_of (unlisted_does h) ∙ under rule ∙ sym (ap (λ (b : Bool). cond (not b && not (is_strict rule)) 1 0) h)

-- ---- the rule of the opening

rule_carried : (t : Tables) (number : ℕ) (m : Message) (e : Effect) → (carried t number m e).unlisted.rule ≡ t.unlisted.rule
rule_carried t number m Put = refl
rule_carried t number m (Replace place shares price) = refl
rule_carried t number m (Remove place) = refl
rule_carried t number m (Renew place) = refl
rule_carried t number m Enter = refl
rule_carried t number m (Record code) = refl
rule_carried t number m Unchanged = refl
rule_carried t number m (Fault reason) = refl
rule_carried t number m CountApart = refl

pub rule_stays : (t : Tables) (number : ℕ) (s : List ℕ) → (apply_of t number s).unlisted.rule ≡ t.unlisted.rule
unfolding apply_of
rule_stays t number s = rule_carried t number (message_in s) (effect_in t s)

-- ---- the counts

abbrev OneMore : ℕ → Faults → Type 0
OneMore n f = f.count ≤ n + 1

abbrev Grown : Tables → Tables → Type 0
Grown t u = OneMore t.faults.count u.faults × (u.unlisted.count ≤ t.unlisted.count + 1)

one_more : (t : Tables) (number : ℕ) (m : Message) (e : Effect) → Grown t (carried t number m e)
unfolding faulted
one_more t number m Put = (omega arith, omega arith)
one_more t number m (Replace place shares price) = (omega arith, omega arith)
one_more t number m (Remove place) = (omega arith, omega arith)
one_more t number m (Renew place) = (omega arith, omega arith)
one_more t number m Enter = (omega arith, omega arith)
one_more t number m (Record code) = (omega arith, omega arith)
one_more t number m Unchanged = (omega arith, omega arith)
one_more t number m (Fault reason) = (
  pick (OneMore t.faults.count) (eqb t.faults.count 0) (λ e. omega arith) (λ e. omega arith),
  omega arith,
)
one_more t number m CountApart = (omega arith, omega arith)

-- messages that faulted, and those that were counted apart, are never more than the numbers behind a book: no count wraps
pub counted_next : {b : Book} {number : ℕ} {s : List ℕ} → Ready b number s
    → ((apply_of (view b) number s).faults.count ≤ number + 1) × ((apply_of (view b) number s).unlisted.count ≤ number + 1)
unfolding apply_of
counted_next {b} {number} {s} ready =
    let more = one_more (view b) number (message_in s) (effect_in (view b) s) in
    (omega (arith, more.0, ready.counted), omega (arith, more.1, ready.apart))
