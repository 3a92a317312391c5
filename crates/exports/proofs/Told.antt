-- The numbers of a session.
-- Assumes nothing.
use mathlib.Core.Path.{◌≡◌, refl, ap, sym}
use mathlib.Core.List.{List, [], ◌∷◌}
use Prim.Native.Nat.{ℕ, zero, suc}
use native.Mathlib.Omega.{arith}
use lib.ListN.{get_or, length}
use lib.Seq.{length-take-le}
use Rattle.book.specs.declared.tables.Faults.{Faults}
use Rattle.session.specs.Meaning.{Held, Ruled, code_in, end_in, faults_in, live_in, next_in, view}
use Rattle.session.proofs.Answers.{live_few, orders_long}
use Rattle.book_room.specs.Room.{insides_from}
use Rattle.single.specs.Over.{over}
use Rattle.exports.specs.Told.{numbers_in, numbers_of}

pub numbers_told : (room old : List ℕ) {next end code : ℕ} {faults : Faults} → next ≡ next_in room → end ≡ end_in room → code ≡ code_in room → faults ≡ faults_in room
    → over (next ∷ end ∷ live_in room ∷ get_or room 3 0 ∷ code ∷ faults.number ∷ faults.count ∷ faults.reason ∷ []) old ≡ over (numbers_in room) old
numbers_told room old n e c f i = over (n i ∷ e i ∷ live_in room ∷ get_or room 3 0 ∷ c i ∷ (f i).number ∷ (f i).count ∷ (f i).reason ∷ []) old

-- under the rule as many places are live and held as the meaning has orders and insides
insides_few : (room : List ℕ) (place n : ℕ) → length (insides_from room place n) ≡ n
unfolding insides_from
insides_few room place zero = refl
insides_few room place (suc n) = ap suc (insides_few room (suc place) n)

pub numbers_mean : {h : Held} → Ruled h → numbers_in h.room ≡ numbers_of (view h)
numbers_mean {h} rule =
    let live = length-take-le (live_in h.room) h.session.orders (omega (arith, live_few rule, orders_long rule)) in
    let held = insides_few h.room 0 (get_or h.room 3 0) in
    λ i. next_in h.room ∷ end_in h.room ∷ sym live i ∷ sym held i ∷ code_in h.room ∷ (faults_in h.room).number ∷ (faults_in h.room).count ∷ (faults_in h.room).reason ∷ []
