-- The layouts against document 01's table, and the rules against the layouts: each test is computed over all of its rows.
-- Assumes nothing.
use mathlib.Core.Path.{◌≡◌, refl}
use mathlib.Core.Bool.{Bool, true, false, cond}
use mathlib.Core.List.{List, [], ◌∷◌, map}
use Prim.Native.Nat.{ℕ}
use lib.Dec.{eqb}
use lib.ListN.{drop}
use Rattle.wire.specs.Layout.{Field, offsets_from, width_of}
use Rattle.message.specs.Layouts.{head, layout_of, layouts}
use Rattle.message.specs.Rules.{FieldRule, rules}
use Rattle.message.specs.Table.{payload_of}

-- each layout takes its type's payload
widths : map (λ (row : ℕ × List Field). width_of row.1) layouts ≡ map (λ (row : ℕ × List Field). payload_of row.0) layouts
unfolding payload_of
widths = refl

-- the offsets of 20 to 27
offsets : map (λ (row : ℕ × List Field). offsets_from 0 row.1) (drop 3 layouts) ≡ (0 ∷ 8 ∷ []) ∷ (0 ∷ 4 ∷ 18 ∷ 19 ∷ 23 ∷ 37 ∷ 45 ∷ 49 ∷ 50 ∷ []) ∷ (0 ∷ 4 ∷ 18 ∷ 22 ∷ 30 ∷ []) ∷ (0 ∷ 4 ∷ []) ∷ (0 ∷ 4 ∷ 18 ∷ 22 ∷ 26 ∷ []) ∷ (0 ∷ 4 ∷ 18 ∷ 22 ∷ 26 ∷ 34 ∷ []) ∷ (0 ∷ 4 ∷ 18 ∷ 26 ∷ 30 ∷ 38 ∷ 42 ∷ []) ∷ (0 ∷ 4 ∷ 5 ∷ 9 ∷ 23 ∷ 31 ∷ 39 ∷ []) ∷ []
offsets = refl

-- the first numbers stand among the second, in the same order
stand_among : List ℕ → List ℕ → Bool
stand_among [] among = true
stand_among (n ∷ ns) [] = false
stand_among (n ∷ ns) (m ∷ among) = cond (eqb n m) (stand_among ns among) (stand_among (n ∷ ns) among)

-- each rule stands at a field of its type's layout, and the rules in the order of the fields
rule_places : map (λ (row : ℕ × List FieldRule). stand_among (map (λ (rule : FieldRule). rule.0) row.1) (offsets_from (width_of head) (layout_of row.0))) rules ≡ map (λ (row : ℕ × List FieldRule). true) rules
unfolding layout_of stand_among
rule_places = refl
