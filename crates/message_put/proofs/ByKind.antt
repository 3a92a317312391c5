-- The room and the row of a message whose kind is known, said once for all kinds.
-- Assumes nothing.
use mathlib.Core.Path.{◌≡◌, ap, ◌∙◌, sym, subst}
use mathlib.Core.List.{List, []}
use Prim.Native.Nat.{ℕ, ◌+◌, ◌≤◌}
use native.Mathlib.Omega.{arith}
use Rattle.wire.specs.Layout.{put_row, width_of}
use Rattle.message.specs.Layouts.{layout_of}
use Rattle.message.specs.Row.{row_with, type_of_body, type_of_terms}
use Rattle.message.specs.declared.kinds.Body.{Body}
use Rattle.message.specs.declared.kinds.Body.TheVariants.{Execution}
use Rattle.message.specs.declared.kinds.Terms.{Terms}
use Rattle.message.specs.declared.kinds.Terms.TheVariants.{Published, Own}

pub kind_room : {body b : Body} (at n : ℕ) → body ≡ b → at + width_of (layout_of (type_of_body body)) ≤ n → at + width_of (layout_of (type_of_body b)) ≤ n
kind_room at n e h = subst (λ (k : Body). at + width_of (layout_of (type_of_body k)) ≤ n) e h

pub kind_put : {body b : Body} (id symbol firm s : List ℕ) (at : ℕ) {t : List ℕ} → body ≡ b → t ≡ put_row (layout_of (type_of_body b)) (row_with id symbol firm b) s at → t ≡ put_row (layout_of (type_of_body body)) (row_with id symbol firm body) s at
kind_put id symbol firm s at e h = h ∙ ap (λ (k : Body). put_row (layout_of (type_of_body k)) (row_with id symbol firm k) s at) (sym e)

pub terms_room : {terms t : Terms} (at n : ℕ) → terms ≡ t → at + width_of (layout_of (type_of_terms terms)) ≤ n → at + width_of (layout_of (type_of_terms t)) ≤ n
terms_room at n e h = kind_room at n (ap (Execution 0 0 0 0) e) h

-- either kind of execution has room for the fields that both have
pub terms_least : (terms : Terms) (at n : ℕ) → at + width_of (layout_of (type_of_terms terms)) ≤ n → at + 34 ≤ n
unfolding layout_of
terms_least Published at n h = h
terms_least (Own price) at n h = omega arith

pub terms_put : {terms t : Terms} (id : List ℕ) (time executed remaining execution : ℕ) (s : List ℕ) (at : ℕ) {u : List ℕ} → terms ≡ t → u ≡ put_row (layout_of (type_of_terms t)) (row_with id [] [] (Execution time executed remaining execution t)) s at → u ≡ put_row (layout_of (type_of_terms terms)) (row_with id [] [] (Execution time executed remaining execution terms)) s at
terms_put id time executed remaining execution s at e h = kind_put id [] [] s at (ap (Execution time executed remaining execution) e) h
