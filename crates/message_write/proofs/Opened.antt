-- The types that are written, computed for each kind.
-- Assumes nothing.
use mathlib.Core.Path.{◌≡◌, refl}
use mathlib.Core.Bool.{Bool, true, false, ◌&&◌}
use mathlib.Core.List.{List}
use Prim.Native.Nat.{ℕ, ◌≤◌, ◌<◌}
use borrow.Author.Tests.{ltb-true, leb-true, eqb-true}
use lib.Dec.{eqb, leb, ltb}
use Rattle.wire.specs.Layout.{width_of}
use Rattle.message.specs.Layouts.{layout_of}
use Rattle.message.specs.Row.{row_with, type_of, type_of_body}
use Rattle.message.specs.Table.{payload_of}
use Rattle.message_write.specs.Writing.{has_fields, is_written}
use Rattle.message.specs.declared.kinds.Body.{Body}
use Rattle.message.specs.declared.kinds.Body.TheVariants.{Security, SpinStart, SpinEnd, TradingSession, Add, Update, Delete, Execution, Top, Trade, Other}
use Rattle.message.specs.declared.kinds.Message.{Message}
use Rattle.message.specs.declared.kinds.Terms.TheVariants.{Published, Own}

-- a type that is written: what its layout takes is its payload, and the message's size is one that reading takes
pub record Opened (type : ℕ) : Type 0 where
  pub some : 1 ≤ type
  pub byte : type < 256
  pub small : payload_of type ≤ 125
  pub width : width_of (layout_of type) ≡ payload_of type

abbrev sound : ℕ → Bool
sound type = leb 1 type && (ltb type 256 && (leb (payload_of type) 125 && eqb (width_of (layout_of type)) (payload_of type)))

both : (a b : Bool) → (a && b) ≡ true → (a ≡ true) × (b ≡ true)
both true b h = (refl, h)
both false b h = (h, cc)

opened : (type : ℕ) → sound type ≡ true → Opened type
opened type h =
    let h₁ = both _ _ h in
    let h₂ = both _ _ h₁.1 in
    let h₃ = both _ _ h₂.1 in
    record { some = leb-true _ _ h₁.0; byte = ltb-true _ _ h₂.0; small = leb-true _ _ h₃.0; width = eqb-true _ _ h₃.1 }

-- computed for each kind
sound_kind : (id symbol firm : List ℕ) (body : Body) → has_fields (row_with id symbol firm body) ≡ true → sound (type_of_body body) ≡ true
unfolding payload_of layout_of
sound_kind id symbol firm (Security updated action class security flags tier reporting status) h = refl
sound_kind id symbol firm (SpinStart spin time last) h = refl
sound_kind id symbol firm (SpinEnd spin count time last) h = refl
sound_kind id symbol firm (TradingSession time session) h = refl
sound_kind id symbol firm (Add time side quantity price unsolicited flags) h = refl
sound_kind id symbol firm (Update time quantity price flags) h = refl
sound_kind id symbol firm (Delete time) h = refl
sound_kind id symbol firm (Execution time executed remaining execution Published) h = refl
sound_kind id symbol firm (Execution time executed remaining execution (Own price)) h = refl
sound_kind id symbol firm (Top time ask askvolume bid bidvolume unsolicited) h = refl
sound_kind id symbol firm (Trade time side quantity price execution reserved) h = refl
sound_kind id symbol firm (Other type) h = cc

pub written_opened : (m : Message) → is_written m ≡ true → Opened (type_of m)
written_opened m h = opened (type_of m) (sound_kind m.id m.symbol m.firm m.body h)
