-- A message and its row: each gives the other back, by computation for each kind and for each type.
-- Assumes nothing.
use mathlib.Core.Path.{◌≡◌, refl, ◌∙◌, sym, subst}
use mathlib.Core.Bool.{Bool, true, false}
use mathlib.Core.List.{List, [], ◌∷◌}
use Prim.Native.Nat.{ℕ}
use native.Mathlib.Omega.{arith}
use Rattle.wire.specs.Choice.{listed_at}
use Rattle.wire.specs.Layout.{decode, width_of}
use Rattle.message.specs.Layouts.{head, layout_of}
use Rattle.message.specs.Row.{fields_of, message_of, row_of, row_with, type_of, type_of_body}
use Rattle.message_write.specs.Writing.{has_fields, is_written, Proper, ProperWith}
use Rattle.message.specs.declared.kinds.Body.{Body}
use Rattle.message.specs.declared.kinds.Body.TheVariants.{Security, SpinStart, SpinEnd, TradingSession, Add, Update, Delete, Execution, Top, Trade, Other}
use Rattle.message.specs.declared.kinds.Message.{Message}
use Rattle.message.specs.declared.kinds.Terms.TheVariants.{Published, Own}
use Rattle.message.proofs.Cases.{by_type, unlisted, unopened, Unopened}

abbrev made : List ℕ → List ℕ → List ℕ → Body → Message
made id symbol firm body = record { id = id; symbol = symbol; firm = firm; body = body }

kind_back : (id symbol firm : List ℕ) (body : Body) → ProperWith id symbol firm body → has_fields (row_with id symbol firm body) ≡ true → message_of (type_of_body body) (row_with id symbol firm body) ≡ made id symbol firm body
unfolding message_of
kind_back id symbol firm (Security updated action class security flags tier reporting status) h w = rw (h.0, h.1)
kind_back id symbol firm (SpinStart spin time last) h w = rw (h.0, h.1, h.2)
kind_back id symbol firm (SpinEnd spin count time last) h w = rw (h.0, h.1, h.2)
kind_back id symbol firm (TradingSession time session) h w = rw (h.0, h.1, h.2)
kind_back id symbol firm (Add time side quantity price unsolicited flags) h w = refl
kind_back id symbol firm (Update time quantity price flags) h w = rw (h.0, h.1)
kind_back id symbol firm (Delete time) h w = rw (h.0, h.1)
kind_back id symbol firm (Execution time executed remaining execution Published) h w = rw (h.0, h.1)
kind_back id symbol firm (Execution time executed remaining execution (Own price)) h w = rw (h.0, h.1)
kind_back id symbol firm (Top time ask askvolume bid bidvolume unsolicited) h w = rw (h.0, h.1)
kind_back id symbol firm (Trade time side quantity price execution reserved) h w = rw (h.0, h.1)
kind_back id symbol firm (Other type) h w = let z : ◌≡◌ {A = ℕ} 0 1 = cc in absurd (omega arith)

-- message to row to message
pub message_back : (m : Message) → Proper m → is_written m ≡ true → message_of (type_of m) (row_of m) ≡ m
message_back m h w = kind_back m.id m.symbol m.firm m.body h w

-- the types whose messages are written, as document 01 lists them
abbrev is_one : ℕ → Bool
is_one t =
    listed_at t ((9, true) ∷ (11, true) ∷ (12, true) ∷ (20, true) ∷ (21, true) ∷ (22, true) ∷ (23, true) ∷ (24, true) ∷ (25, true) ∷ (26, true) ∷ (27, true) ∷ []) false

other_unwritten : (t : ℕ) (s : List ℕ) → Unopened t → is_written (fields_of t s) ≡ false
other_unwritten t s h = subst (λ (m : Message). is_written m ≡ false) (unopened t s h) refl

pub written_types : (t : ℕ) (s : List ℕ) → is_written (fields_of t s) ≡ is_one t
unfolding fields_of message_of layout_of
written_types =
    by_type (λ t. (s : List ℕ) → is_written (fields_of t s) ≡ is_one t) (λ s. refl) (λ s. refl) (λ s. refl) (λ s. refl) (λ s. refl) (λ s. refl) (λ s. refl) (λ s. refl) (λ s. refl) (λ s. refl) (λ s. refl)
    (λ t h s. other_unwritten t s h ∙ unlisted true true true true true true true true true true true false t h)

-- row to message to row
abbrev RowBack : ℕ → Type 0
RowBack t = (s : List ℕ) → is_written (fields_of t s) ≡ true → (type_of (fields_of t s) ≡ t) × (row_of (fields_of t s) ≡ decode (layout_of t) (width_of head) s)

pub row_back : (t : ℕ) → RowBack t
unfolding fields_of message_of layout_of
row_back =
    by_type RowBack (λ s w. (refl, refl)) (λ s w. (refl, refl)) (λ s w. (refl, refl)) (λ s w. (refl, refl)) (λ s w. (refl, refl)) (λ s w. (refl, refl)) (λ s w. (refl, refl)) (λ s w. (refl, refl)) (λ s w. (refl, refl)) (λ s w. (refl, refl)) (λ s w. (refl, refl))
    (λ t h s w. let z : ◌≡◌ {A = Bool} false true = sym (other_unwritten t s h) ∙ w in let n : ◌≡◌ {A = ℕ} 0 1 = cc in absurd (omega arith))

-- what is read has no text beside those of its kind
pub fields_proper : (t : ℕ) (s : List ℕ) → Proper (fields_of t s)
unfolding fields_of message_of layout_of
fields_proper =
    by_type (λ t. (s : List ℕ) → Proper (fields_of t s)) (λ s. (refl, refl)) (λ s. (refl, refl, refl)) (λ s. (refl, refl, refl)) (λ s. (refl, refl, refl)) (λ s. tt) (λ s. (refl, refl)) (λ s. (refl, refl)) (λ s. (refl, refl)) (λ s. (refl, refl)) (λ s. (refl, refl)) (λ s. (refl, refl))
    (λ t h s. subst Proper (unopened t s h) (refl, refl, refl))
