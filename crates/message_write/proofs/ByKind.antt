-- The type of a message whose kind is known, said once for all kinds.
-- Assumes nothing.
use mathlib.Core.Path.{◌≡◌, ap, ◌∙◌, sym}
use mathlib.Core.Bool.{cond}
use Prim.Native.Nat.{ℕ}
use Rattle.message.specs.Row.{row_with, type_of_body}
use Rattle.message.specs.declared.kinds.Body.{Body}
use Rattle.message.specs.declared.kinds.Message.{Message}
use Rattle.message_write.specs.Writing.{has_fields, written_type}

pub kind_type : {b : Body} (m : Message) (r : ℕ) → m.body ≡ b → r ≡ cond (has_fields (row_with m.id m.symbol m.firm b)) (type_of_body b) 0 → r ≡ written_type m
unfolding written_type
kind_type m r e h = h ∙ ap (λ (k : Body). cond (has_fields (row_with m.id m.symbol m.firm k)) (type_of_body k) 0) (sym e)
