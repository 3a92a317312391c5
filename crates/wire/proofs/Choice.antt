-- An answer that none of the tests gives: no test applied, and it is the last one.
-- Assumes nothing.
use mathlib.Core.Path.{◌≡◌, refl}
use mathlib.Core.Bool.{Bool, true, false, cond}
use mathlib.Core.List.{List, [], ◌∷◌}
use Rattle.wire.specs.Choice.{first_of}

module _ {A : Type 0} where
  -- no test gives an answer; no test applies
  abbrev pub Others : List (Bool × A) → A → Type 0
  Others [] answer = Unit {0}
  Others (row ∷ rows) answer = (row.1 ≡ answer → ⊥) × Others rows answer

  abbrev pub None : List (Bool × A) → Type 0
  None [] = Unit {0}
  None (row ∷ rows) = (row.0 ≡ false) × None rows

  passed_one : (test : Bool) (a rest answer : A) → (a ≡ answer → ⊥) → cond test a rest ≡ answer → (test ≡ false) × (rest ≡ answer)
  passed_one true a rest answer other e = absurd (other e)
  passed_one false a rest answer other e = (refl, e)

  pub passed : (rows : List (Bool × A)) (last answer : A) → Others rows answer → first_of rows last ≡ answer → None rows × (last ≡ answer)
  passed [] last answer others e = (tt, e)
  passed (row ∷ rows) last answer others e =
      let one = passed_one row.0 row.1 (first_of rows last) answer others.0 e in
      let more = passed rows last answer others.1 one.1 in
      ((one.0, more.0), more.1)
