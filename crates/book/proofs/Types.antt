-- What a message's type tells of it: the id that it names, its room, and its type again.
-- Assumes nothing.
use mathlib.Core.Path.{◌≡◌, refl, ap, ◌∙◌, sym, subst}
use mathlib.Core.Logic.{◌≢◌}
use mathlib.Core.Bool.{Bool, true, false, cond, not}
use mathlib.Core.List.{List}
use Prim.Native.Nat.{ℕ, ◌+◌, ◌≤◌, ◌<◌}
use native.Mathlib.Omega.{arith}
use borrow.Author.Tests.{eq-eqb, ne_eqb, eqb-true}
use lib.Dec.{eqb}
use lib.ListN.{length}
use Rattle.wire.specs.Number.{part}
use Rattle.fields.specs.Tests.{between}
use Rattle.fields.specs.Id.{good_id, value_of, no_value, number_of, id_answer}
use Rattle.std.specs.Prelude.{Result, Ok, Err}
use Rattle.refusals.specs.declared.Refusal.{Refusal}
use Rattle.refusals.specs.declared.Refusal.TheVariants.{BadQuestion}
use Rattle.message.proofs.Cases.{room}
use Rattle.message.specs.Layouts.{layout_of, type_in}
use Rattle.message.specs.Row.{no_text, fields_of, message_of, type_of}
use Rattle.fields.proofs.Ids.{value_good}
use Rattle.fields.proofs.Tests.{in_range}
use Rattle.message.specs.Table.{payload_of, too_short}
use Rattle.message.specs.Whole.{Whole}
use Rattle.message.specs.declared.kinds.Message.{Message}
use Rattle.book.specs.Applying.{Keyed, Naming, message_in, topic_of, names, order_of, inside_of}
-- ---- going by a test

pub use Rattle.book_index.proofs.Below.{pick, split}

pub no : {A : Type 0} → false ≡ true → A
no e = let z : ◌≡◌ {A = ℕ} 0 1 = ap (λ (b : Bool). cond b 1 0) e in absurd (omega arith)

-- ---- an id's answer

pub valued : (id : List ℕ) → good_id id ≡ true → number_of id ≢ no_value
valued id good e = no (ap not (sym (eq-eqb _ _ e)) ∙ value_good id refl ∙ good)

answer_cases : (id : List ℕ) (b : Bool) {v : ℕ} → cond b (Ok (value_of 12 id)) (Err BadQuestion) ≡ Ok v → v ≡ cond b (value_of 12 id) no_value
answer_cases id true e = cc
answer_cases id false e = let z : ◌≡◌ {A = ℕ} 0 1 = cc in absurd (omega arith)

pub answer_value : (id : List ℕ) {answer : Result ℕ Refusal} {v : ℕ} → answer ≡ id_answer id → answer ≡ Ok v → v ≡ number_of id
unfolding id_answer number_of
answer_value id is e = answer_cases id (good_id id) (sym is ∙ e)

refused_cases : (id : List ℕ) (b : Bool) {r : Refusal} → ◌≡◌ {A = Result ℕ Refusal} (cond b (Ok (value_of 12 id)) (Err BadQuestion)) (Err r) → r ≡ BadQuestion
refused_cases id true e = cc
refused_cases id false e = cc

-- an id is refused for its rule alone
pub answer_refused : (id : List ℕ) {answer : Result ℕ Refusal} {r : Refusal} → answer ≡ id_answer id → answer ≡ Err r → r ≡ BadQuestion
unfolding id_answer
answer_refused id is e = refused_cases id (good_id id) (sym is ∙ e)

-- ---- the types that name an order

abbrev Typed : ℕ → Message → Type 0
Typed k m = type_of m ≡ k

module _ (k : ℕ) (s : List ℕ) where
  -- of 21 to 25 the id stands at one place
  pub named_id : 21 ≤ k → k < 26 → number_of (part s 7 14) ≡ number_of (fields_of k s).id
  unfolding fields_of message_of layout_of
  named_id low high =
      split k 21 (at 21 refl)
      λ n1. split k 22 (at 22 refl)
      λ n2. split k 23 (at 23 refl)
      λ n3. split k 24 (at 24 refl)
      λ n4. split k 25 (at 25 refl)
      λ n5. absurd (omega arith)
    where
      at : (n : ℕ) → number_of (part s 7 14) ≡ number_of (fields_of n s).id → k ≡ n → number_of (part s 7 14) ≡ number_of (fields_of k s).id
      at n h e = h ∙ ap (λ (j : ℕ). number_of (fields_of j s).id) (sym e)

  pub named_room : 21 ≤ k → k < 26 → too_short k (length s) ≡ false → 21 ≤ length s
  unfolding payload_of
  named_room low high h =
      split k 21 (λ e. let r = room 21 (length s) e refl h in omega arith)
      λ n1. split k 22 (λ e. let r = room 22 (length s) e refl h in omega arith)
      λ n2. split k 23 (λ e. let r = room 23 (length s) e refl h in omega arith)
      λ n3. split k 24 (λ e. let r = room 24 (length s) e refl h in omega arith)
      λ n4. split k 25 (λ e. let r = room 25 (length s) e refl h in omega arith)
      λ n5. absurd (omega arith)

  -- a message that was read has the type that it was read with
  pub type_kept : type_of (fields_of k s) ≡ k
  unfolding fields_of message_of
  type_kept =
      pick (Typed k) (eqb k 9) (λ e. sym (eqb-true k 9 e))
      λ f. pick (Typed k) (eqb k 11) (λ e. sym (eqb-true k 11 e))
      λ f. pick (Typed k) (eqb k 12) (λ e. sym (eqb-true k 12 e))
      λ f. pick (Typed k) (eqb k 20) (λ e. sym (eqb-true k 20 e))
      λ f. pick (Typed k) (eqb k 21) (λ e. sym (eqb-true k 21 e))
      λ f. pick (Typed k) (eqb k 22) (λ e. sym (eqb-true k 22 e))
      λ f. pick (Typed k) (eqb k 23) (λ e. sym (eqb-true k 23 e))
      λ f. pick (Typed k) (eqb k 24) (λ e. sym (eqb-true k 24 e))
      λ f. pick (Typed k) (eqb k 25) (λ e. sym (eqb-true k 25 e))
      λ f. pick (Typed k) (eqb k 26) (λ e. sym (eqb-true k 26 e))
      λ f. pick (Typed k) (eqb k 27) (λ e. sym (eqb-true k 27 e)) (λ e. refl)

-- ---- a message of a known type

module _ (s : List ℕ) where
  pub of_type : (k : ℕ) → type_of (message_in s) ≡ k → message_in s ≡ fields_of k s
  of_type k e = ap (λ (j : ℕ). fields_of j s) (sym (type_kept (type_in s) s) ∙ e)

  -- the order that an Add makes has the value of the id that it names
  pub made_id : type_of (message_in s) ≡ 21 → (order_of (message_in s)).id ≡ number_of (message_in s).id
  unfolding order_of fields_of message_of layout_of
  made_id e =
      let is = of_type 21 e in
      let made : (order_of (fields_of 21 s)).id ≡ number_of (fields_of 21 s).id = refl in
      ap (λ (x : Message). (order_of x).id) is ∙ made ∙ ap (λ (x : Message). number_of x.id) (sym is)

  -- the inside that a Top of Book tells has the symbol that it names
  pub told_topic : type_of (message_in s) ≡ 26 → (inside_of (message_in s)).symbol ≡ topic_of (message_in s)
  unfolding inside_of fields_of message_of layout_of
  told_topic e =
      let is = of_type 26 e in
      let top : (inside_of (fields_of 26 s)).symbol ≡ topic_of (fields_of 26 s) = refl in
      ap (λ (x : Message). (inside_of x).symbol) is ∙ top ∙ ap topic_of (sym is)

-- ---- the type that a message's bytes say

module _ (s : List ℕ) {t : ℕ} (is : t ≡ type_in s) where
  pub typed_id : number_of (fields_of t s).id ≡ number_of (message_in s).id
  typed_id = ap (λ (j : ℕ). number_of (fields_of j s).id) is

  pub typed_room : too_short (type_in s) (length s) ≡ false → too_short t (length s) ≡ false
  typed_room h = subst (λ (j : ℕ). too_short j (length s) ≡ false) (sym is) h

  pub type_read : type_of (message_in s) ≡ t
  type_read = type_kept (type_in s) s ∙ sym is

  pub topic_none : t ≢ 26 → no_text ≡ topic_of (message_in s)
  topic_none n = simp (ne_eqb _ _ (λ e. n (sym type_read ∙ e)))

  -- a listed type that is known has room for its layout
  pub opened : (k : ℕ) → t ≡ k → not (eqb (payload_of k) 255) ≡ true → too_short (type_in s) (length s) ≡ false → 3 + payload_of k ≤ length s
  opened k e listed h = room k (length s) e listed (typed_room h)

  pub opened_id : {key : ℕ} → 21 ≤ t → t < 26 → key ≡ number_of (message_in s).id → key ≡ number_of (part s 7 14)
  opened_id low high e = e ∙ sym (named_id t s low high ∙ typed_id)

  -- 22 to 25, by the type
  pub naming : (k : ℕ) {key : ℕ} → t ≡ k → names k ≡ true → not (eqb (payload_of k) 255) ≡ true → Keyed s key → Naming (3 + payload_of k) s key
  unfolding between
  naming k e named listed keyed =
      let low = (in_range 22 25 k named).0 in
      let high = (in_range 22 25 k named).1 in
      record { room = opened k e listed keyed.whole.enough; value = opened_id (omega arith) (omega arith) keyed.value }

-- ---- what a caller knows of a message by its type alone

module _ (s : List ℕ) where
  -- 21
  pub add_id : type_in s ≡ 21 → number_of (part s 7 14) ≡ number_of (message_in s).id
  add_id e = named_id (type_in s) s (omega arith) (omega arith)

  pub add_naming : {key : ℕ} → type_in s ≡ 21 → Whole s → key ≡ number_of (part s 7 14) → Naming 55 s key
  unfolding payload_of
  add_naming e whole value = record { room = opened s refl 21 e refl whole.enough; value = value }

  -- 22 to 25
  pub names_id : names (type_in s) ≡ true → number_of (part s 7 14) ≡ number_of (message_in s).id
  unfolding between
  names_id named =
      let low = (in_range 22 25 (type_in s) named).0 in
      let high = (in_range 22 25 (type_in s) named).1 in
      named_id (type_in s) s (omega arith) (omega arith)

  pub names_room : names (type_in s) ≡ true → Whole s → 21 ≤ length s
  unfolding between
  names_room named whole =
      let low = (in_range 22 25 (type_in s) named).0 in
      let high = (in_range 22 25 (type_in s) named).1 in
      named_room (type_in s) s (omega arith) (omega arith) whole.enough

  -- 26
  pub top_room : type_in s ≡ 26 → Whole s → 46 ≤ length s
  unfolding payload_of
  top_room e whole = opened s refl 26 e refl whole.enough

  pub top_topic : type_in s ≡ 26 → (inside_of (fields_of 26 s)).symbol ≡ topic_of (message_in s)
  unfolding inside_of fields_of message_of layout_of
  top_topic e =
      let top : (inside_of (fields_of 26 s)).symbol ≡ topic_of (fields_of 26 s) = refl in
      top ∙ ap (λ (j : ℕ). topic_of (fields_of j s)) (sym e)
