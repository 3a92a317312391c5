-- Document 01, "Field rules, for 20 to 27 only": which field keeps which rule, and the first field of a message that breaks its own.
-- Assumes nothing.
use Rattle.std.specs.Prelude.{Bool, true, cond, List, [], ◌∷◌, map, ℕ, ◌+◌, eqb}
use Rattle.wire.specs.Choice.{listed_at}
use Rattle.wire.specs.Layout.{Field, Value, number_of, text_of, size_of, width_of}
use Rattle.fields.specs.Id.{good_id}
use Rattle.fields.specs.Rules.{good_symbol, good_side, good_trade_side, good_quantity, good_price, good_inside_price, good_unsolicited, good_session}
use Rattle.message.specs.Layouts.{head, layout_of}
use Rattle.message.specs.Row.{type_of, row_of}
use Rattle.message.specs.declared.kinds.Message.{Message}

-- a field's rule: the field's offset in the message, and the test of what it holds
abbrev pub FieldRule : Type 0
FieldRule = ℕ × (Value → Bool)

abbrev pub number : (ℕ → Bool) → Value → Bool
number test value = test (number_of value)

abbrev pub text : (List ℕ → Bool) → Value → Bool
text test value = test (text_of value)

-- type and rules, in the order of the type's fields; other fields are unchecked
abbrev pub rules : List (ℕ × List FieldRule)
rules =
    (20, (11, number good_session) ∷ [])
    ∷ (21, (7, text good_id) ∷ (21, number good_side) ∷ (22, number good_quantity) ∷ (26, text good_symbol) ∷ (40, number good_price) ∷ (52, number good_unsolicited) ∷ [])
    ∷ (22, (7, text good_id) ∷ (21, number good_quantity) ∷ (25, number good_price) ∷ [])
    ∷ (23, (7, text good_id) ∷ [])
    ∷ (24, (7, text good_id) ∷ (21, number good_quantity) ∷ [])
    ∷ (25, (7, text good_id) ∷ (21, number good_quantity) ∷ (37, number good_price) ∷ [])
    ∷ (26, (7, text good_symbol) ∷ (21, number good_inside_price) ∷ (33, number good_inside_price) ∷ (45, number good_unsolicited) ∷ [])
    ∷ (27, (7, number good_trade_side) ∷ (8, number good_quantity) ∷ (12, text good_symbol) ∷ (26, number good_price) ∷ [])
    ∷ []

abbrev pub rules_of : ℕ → List FieldRule
rules_of type = listed_at type rules []

-- the values of a row with the offsets of their fields, the first one at `at`
abbrev pub placed : ℕ → List Field → List Value → List (ℕ × Value)
placed at [] [] = []
placed at [] (v ∷ vs) = []
placed at (f ∷ fs) [] = []
placed at (f ∷ fs) (v ∷ vs) = (at, v) ∷ placed (at + size_of f) fs vs

-- what stands at the rule's offset keeps it; where no field stands there, nothing breaks it
abbrev pub keeps : List (ℕ × Value) → FieldRule → Bool
keeps fields rule = listed_at rule.0 (map (λ (field : ℕ × Value). (field.0, rule.1 field.1)) fields) true

-- a field that keeps its rule leaves the answer to the fields behind it; one that breaks it answers its offset
unfoldable pub broken_or : Bool → ℕ → ℕ → ℕ
broken_or kept at behind = cond kept behind at

-- of rules, and whether each is kept: the offset of the first that is not, 0 where all are
abbrev pub first_broken : List FieldRule → List Bool → ℕ
first_broken [] [] = 0
first_broken [] (k ∷ kept) = 0
first_broken (rule ∷ rest) [] = 0
first_broken (rule ∷ rest) (k ∷ kept) = broken_or k rule.0 (first_broken rest kept)

abbrev pub broken_by : ℕ → List Bool → ℕ
broken_by type kept = first_broken (rules_of type) kept

-- the offset of the first field of a message that breaks its rule, 0 where none does
unfoldable pub broken_of : Message → ℕ
broken_of m =
    let fields = placed (width_of head) (layout_of (type_of m)) (row_of m) in
    broken_by (type_of m) (map (keeps fields) (rules_of (type_of m)))

-- no field rule is broken
abbrev pub good_message : Message → Bool
good_message m = eqb (broken_of m) 0
