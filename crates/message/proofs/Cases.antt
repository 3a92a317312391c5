-- What a case of a message or a type gives, said once for all cases.
-- Assumes nothing.
use mathlib.Core.Path.{◌≡◌, refl, ap, ◌∙◌, sym, subst}
use mathlib.Core.Bool.{Bool, true, false, not, ◌&&◌}
use mathlib.Core.List.{List, [], ◌∷◌, map}
use Prim.Native.Nat.{ℕ, zero, suc, ◌+◌, ◌≤◌, ◌<◌}
use native.Mathlib.Nat.{le_of_suc-le-suc, not-suc-le-zero}
use native.Mathlib.Omega.{arith}
use borrow.Author.Tests.{eq-eqb, eqb-false, eqb-true, ltb-false, ltb-true, ne_eqb}
use lib.Dec.{eqb, ltb}
use lib.ListN.{get_or}
use Rattle.wire.specs.Choice.{listed_at}
use Rattle.wire.specs.Layout.{Field, Value}
use Rattle.fields.specs.Id.{good_id}
use Rattle.fields.specs.Rules.{good_price, good_quantity}
use Rattle.message.specs.Layouts.{layout_of}
use Rattle.message.specs.Row.{bare, fields_of, message_of, price_of, type_of_terms}
use Rattle.message.specs.Rules.{FieldRule, broken_by, broken_of, broken_or, first_broken, keeps, number, placed, rules_of}
use Rattle.std.proofs.Common.{Some, None}
use Rattle.message.specs.Table.{below, payload_listed, payload_of, payloads, payload_table, tabulate, too_short}
use Rattle.message.specs.declared.kinds.Body.TheVariants.{Execution, Other}
use Rattle.message.specs.declared.kinds.Terms.{Terms}
use Rattle.message.specs.declared.kinds.Terms.TheVariants.{Published, Own}
use Rattle.message.specs.declared.kinds.Message.{Message}
use Rattle.message.specs.declared.kinds.Body.{Body}

-- the first broken field of a message whose kind is known
pub kind_is : (m : Message) {b : Body} {r : ℕ} → m.body ≡ b → r ≡ broken_of (record { id = m.id; symbol = m.symbol; firm = m.firm; body = b }) → r ≡ broken_of m
kind_is m e h = h ∙ ap (λ (b : Body). broken_of (record { id = m.id; symbol = m.symbol; firm = m.firm; body = b })) (sym e)

-- the first test by what it comes to, and the tests behind it
pub broken_is : {r behind last : ℕ} {k t : Bool} (at : ℕ) → r ≡ broken_or k at behind → k ≡ t → behind ≡ last → r ≡ broken_or t at last
broken_is at r e rest = r ∙ (λ i. broken_or (e i) at (rest i))

pub tested : {r : ℕ} {k t : Bool} (at behind : ℕ) → r ≡ broken_or k at behind → k ≡ t → r ≡ broken_or t at behind
tested at behind r e = broken_is at r e refl

-- an execution by its terms, in a message
pub executed-is : (id symbol firm : List ℕ) (time executed remaining execution : ℕ) (terms : Terms) {r : ℕ} {named : Bool} → r ≡ broken_by (type_of_terms terms) (named ∷ good_quantity executed ∷ map (number good_price) (price_of terms)) → named ≡ good_id id → r ≡ broken_of (record { id = id; symbol = symbol; firm = firm; body = Execution time executed remaining execution terms })
unfolding broken_of layout_of
executed-is id symbol firm time executed remaining execution Published r e = tested _ _ r e
executed-is id symbol firm time executed remaining execution (Own price) r e = tested _ _ r e

-- a message of which only the type is known has no field, and so none that breaks a rule
placed-none : (at : ℕ) (fs : List Field) → placed at fs [] ≡ []
placed-none at [] = refl
placed-none at (f ∷ fs) = refl

none_broken : {fields : List (ℕ × Value)} → fields ≡ [] → (rows : List FieldRule) → 0 ≡ first_broken rows (map (keeps fields) rows)
unfolding broken_or
none_broken none [] = refl
none_broken {fields} none (row ∷ rows) =
    none_broken none rows
    ∙ ap (λ (k : Bool). broken_or k row.0 (first_broken rows (map (keeps fields) rows))) (sym (ap (λ (l : List (ℕ × Value)). keeps l row) none))

pub other_is : (id symbol firm : List ℕ) (type : ℕ) → 0 ≡ broken_of (record { id = id; symbol = symbol; firm = firm; body = Other type })
unfolding broken_of
other_is id symbol firm type = none_broken (placed-none 3 (layout_of type)) (rules_of type)

-- the message that fields make which were read along the layout of a type
pub made : {t k : ℕ} (s : List ℕ) {F : Type 0} (of : F → Message) {f g : F} {m : Message} → t ≡ k → m ≡ of f → f ≡ g → of g ≡ fields_of k s → m ≡ fields_of t s
made s of e makes reads is = makes ∙ ap of reads ∙ is ∙ ap (λ (n : ℕ). fields_of n s) (sym e)

-- a message of a listed type that is not too short has room for its layout
enough : (n p : ℕ) → not (eqb p 255) ≡ true → below n p ≡ false → 3 + p ≤ n
enough n p listed h = ltb-false n (3 + p) (rw listed at h)

pub room : {t : ℕ} (k n : ℕ) → t ≡ k → not (eqb (payload_of k) 255) ≡ true → too_short t n ≡ false → 3 + payload_of k ≤ n
room k n e listed h = enough n (payload_of k) listed (subst (λ (m : ℕ). too_short m n ≡ false) e h)

-- the types that are opened are all others than these
abbrev pub Unopened : ℕ → Type 0
Unopened t =
    (((((((((((Unit {0} × (t ≡ 9 → ⊥)) × (t ≡ 11 → ⊥)) × (t ≡ 12 → ⊥)) × (t ≡ 20 → ⊥)) × (t ≡ 21 → ⊥)) × (t ≡ 22 → ⊥)) × (t ≡ 23 → ⊥)) × (t ≡ 24 → ⊥)) × (t ≡ 25 → ⊥)) × (t ≡ 26 → ⊥)) × (t ≡ 27 → ⊥))

-- of a table with a row for each type that is opened, such a type meets the last one
module _ {A : Type 0} (a9 a11 a12 a20 a21 a22 a23 a24 a25 a26 a27 last : A) where
  pub unlisted : (t : ℕ) → Unopened t → last ≡ listed_at t ((9, a9) ∷ (11, a11) ∷ (12, a12) ∷ (20, a20) ∷ (21, a21) ∷ (22, a22) ∷ (23, a23) ∷ (24, a24) ∷ (25, a25) ∷ (26, a26) ∷ (27, a27) ∷ []) last
  unlisted t h =
      simp (ne_eqb t 9 h.0.0.0.0.0.0.0.0.0.0.1, ne_eqb t 11 h.0.0.0.0.0.0.0.0.0.1, ne_eqb t 12 h.0.0.0.0.0.0.0.0.1, ne_eqb t 20 h.0.0.0.0.0.0.0.1, ne_eqb t 21 h.0.0.0.0.0.0.1, ne_eqb t 22 h.0.0.0.0.0.1, ne_eqb t 23 h.0.0.0.0.1, ne_eqb t 24 h.0.0.0.1, ne_eqb t 25 h.0.0.1, ne_eqb t 26 h.0.1, ne_eqb t 27 h.1)

pub unopened : (t : ℕ) (s : List ℕ) → Unopened t → bare (Other t) ≡ fields_of t s
unfolding fields_of message_of
unopened t s h = unlisted _ _ _ _ _ _ _ _ _ _ _ (bare (Other t)) t h

-- what holds of each type that is opened, and of the others, holds of all
module _ (P : ℕ → Type 0) where
  either : (k t : ℕ) → P k → ((t ≡ k → ⊥) → P t) → P t
  either k t same other = go (eqb t k) refl where
    go : (b : Bool) → eqb t k ≡ b → P t
    go true e = subst P (sym (eqb-true t k e)) same
    go false e = other (eqb-false t k e)

  pub by_type : P 9 → P 11 → P 12 → P 20 → P 21 → P 22 → P 23 → P 24 → P 25 → P 26 → P 27 → ((t : ℕ) → Unopened t → P t) → (t : ℕ) → P t
  by_type p9 p11 p12 p20 p21 p22 p23 p24 p25 p26 p27 others t =
      either 9 t p9 (λ n9. either 11 t p11 (λ n11. either 12 t p12 (λ n12. either 20 t p20 (λ n20. either 21 t p21 (λ n21. either 22 t p22 (λ n22. either 23 t p23 (λ n23. either 24 t p24 (λ n24. either 25 t p25 (λ n25. either 26 t p26 (λ n26. either 27 t p27 (λ n27. others t (((((((((((tt, n9), n11), n12), n20), n21), n22), n23), n24), n25), n26), n27))))))))))))

-- what a table that is worked out from a rule holds at a place: the rule
entry : (f : ℕ → ℕ) (n k : ℕ) → k < n → get_or (tabulate f n) k 0 ≡ f k
unfolding tabulate
entry f zero k h = absurd (not-suc-le-zero h)
entry f (suc n) zero h = refl
entry f (suc n) (suc k) h = entry (λ j. f (suc j)) n k (le_of_suc-le-suc h)

-- what the table has at a type; behind it none is listed
pub needed : (sizes : List ℕ) (k : ℕ) → sizes ≡ payload_table → k < 32 → get_or sizes k 0 ≡ payload_of k
unfolding payload_table
needed sizes k e h = ap (λ (l : List ℕ). get_or l k 0) e ∙ entry payload_of 32 k h

abbrev all_below : ℕ → List (ℕ × ℕ) → Bool
all_below n [] = true
all_below n (row ∷ rows) = ltb row.0 n && all_below n rows

behind_row : (row : ℕ × ℕ) (rows : List (ℕ × ℕ)) (n k last : ℕ) (b : Bool) → ltb row.0 n ≡ b → (b && all_below n rows) ≡ true → n ≤ k → (all_below n rows ≡ true → listed_at k rows last ≡ last)
    → listed_at k (row ∷ rows) last ≡ last
behind_row row rows n k last true e h far rest = simp (ne_eqb k row.0 (λ same. omega (arith, same, ltb-true row.0 n e))) (rest h)
behind_row row rows n k last false e h far rest = let z : ◌≡◌ {A = ℕ} 0 1 = cc in absurd (omega arith)

behind : (rows : List (ℕ × ℕ)) (n k last : ℕ) → all_below n rows ≡ true → n ≤ k → listed_at k rows last ≡ last
behind [] n k last h far = refl
behind (row ∷ rows) n k last h far = behind_row row rows n k last (ltb row.0 n) refl h far (λ rest. behind rows n k last rest far)

-- the payload of a type that may be listed
pub listed-none : (k : ℕ) → 255 ≡ payload_of k → None ≡ payload_listed k
listed-none k e = simp (eq-eqb _ _ (sym e))

pub listed-some : (k p : ℕ) → p ≡ payload_of k → (p ≡ 255 → ⊥) → Some p ≡ payload_listed k
listed-some k p e some = simp (ne_eqb (payload_of k) 255 (λ all. some (e ∙ all))) (ap Some e)

pub unlisted-behind : (k : ℕ) → 32 ≤ k → 255 ≡ payload_of k
unfolding payload_of
unlisted-behind k far = sym (behind payloads 32 k 255 refl far)
