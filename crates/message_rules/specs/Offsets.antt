-- The offset of a field that breaks its rule, as an answer.
-- Assumes nothing.
use Rattle.std.specs.Prelude.{ℕ, cond, eqb, Option, Some, None}

-- no field stands at 0, which says that none breaks its rule
abbrev pub offset_told : ℕ → Option ℕ
offset_told offset = cond (eqb offset 0) None (Some offset)
