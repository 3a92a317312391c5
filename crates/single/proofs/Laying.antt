-- The widths of a type, and the numbers that stand in a message's bytes: computed for each type.
-- Assumes nothing.
use mathlib.Core.Path.{◌≡◌, refl, ap, ◌∙◌, sym, subst}
use mathlib.Core.Bool.{true, false, true≢false}
use mathlib.Core.List.{List, [], ◌∷◌}
use Prim.Native.Nat.{ℕ, ◌+◌, ◌≤◌}
use borrow.Author.Tests.{eq-eqb, leb-true}
use lib.Dec.{eqb, leb}
use lib.ListN.{length, set}
use Rattle.wire.specs.Layout.{Field}
use Rattle.message.specs.Layouts.{layout_of, type_in}
use Rattle.message.specs.Reading.{read_of}
use Rattle.message.specs.Row.{fields_of, message_of}
use Rattle.message.specs.Table.{payload_of, too_short}
use Rattle.std.proofs.Common.{Result, Ok}
use Rattle.refusals.specs.declared.Refusal.{Refusal}
use Rattle.message.specs.declared.kinds.Message.{Message}
use Rattle.message.proofs.Cases.{by_type, room, unlisted, unopened, Unopened}
use Rattle.message.proofs.Readings.{taken, Taken}
use Rattle.single.specs.Over.{over, over_from}
use Rattle.single.specs.Words.{message_numbers, message_told, total, widths_of, words_at, Laid}

-- ---- by type

pub layout-none : (t : ℕ) → Unopened t → [] ≡ layout_of t
unfolding layout_of
layout-none t h = unlisted _ _ _ _ _ _ _ _ _ _ _ [] t h

other : (n : ℕ) → eqb n 255 ≡ false → n ≡ 255 → ⊥
other n f e = true≢false (sym (eq-eqb n 255 e) ∙ f)

-- a type that is not listed has no fields
pub layout-unlisted : (t : ℕ) → payload_of t ≡ 255 → [] ≡ layout_of t
unfolding payload_of
layout-unlisted =
    by_type (λ (t : ℕ). payload_of t ≡ 255 → [] ≡ layout_of t)
    (λ h. absurd (other _ refl h)) (λ h. absurd (other _ refl h)) (λ h. absurd (other _ refl h)) (λ h. absurd (other _ refl h)) (λ h. absurd (other _ refl h)) (λ h. absurd (other _ refl h))
    (λ h. absurd (other _ refl h)) (λ h. absurd (other _ refl h)) (λ h. absurd (other _ refl h)) (λ h. absurd (other _ refl h)) (λ h. absurd (other _ refl h))
    (λ t u h. layout-none t u)

laid_by : (ws : List ℕ) (n : ℕ) → leb (length ws) 13 ≡ true → 3 ≤ n → 3 + total ws ≤ n → Laid ws n
laid_by ws n h head room = record { most = leb-true _ _ h; head = head; room = room }

-- a message that is not too short has room for its fields
abbrev IsLaid : ℕ → Type 0
IsLaid t = (n : ℕ) → 3 ≤ n → too_short t n ≡ false → Laid (widths_of (layout_of t)) n

pub laid : (t : ℕ) → IsLaid t
unfolding layout_of payload_of
laid =
    by_type IsLaid
    (λ n l h. laid_by (widths_of (layout_of 9)) n refl l (room 9 n refl refl h))
    (λ n l h. laid_by (widths_of (layout_of 11)) n refl l (room 11 n refl refl h))
    (λ n l h. laid_by (widths_of (layout_of 12)) n refl l (room 12 n refl refl h))
    (λ n l h. laid_by (widths_of (layout_of 20)) n refl l (room 20 n refl refl h))
    (λ n l h. laid_by (widths_of (layout_of 21)) n refl l (room 21 n refl refl h))
    (λ n l h. laid_by (widths_of (layout_of 22)) n refl l (room 22 n refl refl h))
    (λ n l h. laid_by (widths_of (layout_of 23)) n refl l (room 23 n refl refl h))
    (λ n l h. laid_by (widths_of (layout_of 24)) n refl l (room 24 n refl refl h))
    (λ n l h. laid_by (widths_of (layout_of 25)) n refl l (room 25 n refl refl h))
    (λ n l h. laid_by (widths_of (layout_of 26)) n refl l (room 26 n refl refl h))
    (λ n l h. laid_by (widths_of (layout_of 27)) n refl l (room 27 n refl refl h))
    (λ t u n l h. subst (λ (fs : List Field). Laid (widths_of fs) n) (layout-none t u) (laid_by [] n refl l l))

-- the numbers of a message are those that stand in its bytes
abbrev NumbersAre : ℕ → Type 0
NumbersAre t = (s : List ℕ) → message_numbers (fields_of t s) ≡ t ∷ words_at (widths_of (layout_of t)) 3 s

pub numbers_are : (t : ℕ) → NumbersAre t
unfolding fields_of message_of layout_of
numbers_are =
    by_type NumbersAre (λ s. refl) (λ s. refl) (λ s. refl) (λ s. refl) (λ s. refl) (λ s. refl) (λ s. refl) (λ s. refl) (λ s. refl) (λ s. refl) (λ s. refl)
    (λ t h s. sym (ap message_numbers (unopened t s h)) ∙ ap (λ (fs : List Field). t ∷ words_at (widths_of fs) 3 s) (layout-none t h))

-- ---- a message told

pub tell_is : (s old : List ℕ) {kind : ℕ} {words after : List ℕ} → kind ≡ type_in s → words ≡ widths_of (layout_of kind) → after ≡ over_from 1 (words_at words 3 s) (set old 0 kind)
    → after ≡ over (type_in s ∷ words_at (widths_of (layout_of (type_in s))) 3 s) old
tell_is s old {kind} e are told =
    told
    ∙ ap (λ (ws : List ℕ). over_from 1 (words_at ws 3 s) (set old 0 kind)) are
    ∙ ap (λ (t : ℕ). over_from 1 (words_at (widths_of (layout_of t)) 3 s) (set old 0 t)) e

module _ (s : List ℕ) where
  pub read_laid : (m : Message) → Ok m ≡ read_of s → Laid (widths_of (layout_of (type_in s))) (length s)
  read_laid m told = let t : Taken s m = taken s m (sym told) in laid (type_in s) (length s) t.least t.enough

  pub read_accepted : (m : Message) (old : List ℕ) {after : List ℕ} → Ok m ≡ read_of s → after ≡ over (type_in s ∷ words_at (widths_of (layout_of (type_in s))) 3 s) old → after ≡ message_told (read_of s) old
  read_accepted m old told put =
      put
      ∙ ap (λ (ns : List ℕ). over ns old) (sym (numbers_are (type_in s) s))
      ∙ ap (λ (x : Message). over (message_numbers x) old) (taken s m (sym told)).fields
      ∙ ap (λ (r : Result Message Refusal). message_told r old) told
