-- The three numbers of the faults, behind one more.
-- Assumes nothing.
use mathlib.Core.Path.{◌≡◌, ap, ◌∙◌, sym}
use mathlib.Core.Bool.{Bool, cond}
use mathlib.Core.List.{List}
use Prim.Native.Nat.{ℕ, ◌+◌}
use native.Mathlib.Omega.{arith}
use borrow.Author.Tests.{eq-eqb, ne_eqb}
use lib.ListN.{length, get_or, set, length-set}
use Rattle.book.specs.Applying.{faulted}
use Rattle.book.specs.Tables.{Book, holding_marks}
use Rattle.book.specs.declared.tables.Faults.{Faults}
use Rattle.book_room.specs.Room.{Lies, parts_of, room_of}
use Rattle.book_room.proofs.Lying.{filled, long}

-- the first fault is noted, or it was before
pub data Noted (room : List ℕ) (number reason : ℕ) (after : List ℕ) : Type 0 where
  first : get_or room 6 0 ≡ 0 → after ≡ set (set room 5 number) 7 reason → Noted room number reason after
  later : (get_or room 6 0 ≡ 0 → ⊥) → after ≡ room → Noted room number reason after

count-is : {room : List ℕ} {next end : ℕ} {b : Book} → Lies room next end b → get_or room 6 0 ≡ b.faults.count
unfolding parts_of
count-is lies = ap (λ (l : List ℕ). get_or l 6 0) lies.is

abbrev marked : ℕ → ℕ → Book → Faults → List ℕ
marked next end b faults = room_of next end (holding_marks b b.code faults)

module _ {room : List ℕ} {next end : ℕ} {b : Book} (lies : Lies room next end b) {number reason : ℕ} {after : List ℕ} where
  pub noted_long : Noted room number reason after → length after ≡ 2308
  noted_long (first none is) = ap length (is) ∙ simp length-set (long (filled lies))
  noted_long (later some is) = ap length (is) ∙ long (filled lies)

  pub noted_count : Noted room number reason after → get_or after 6 0 ≡ b.faults.count
  unfolding parts_of
  noted_count (first none is) = ap (λ (l : List ℕ). get_or l 6 0) (is ∙ ap (λ (l : List ℕ). set (set l 5 number) 7 reason) lies.is)
  noted_count (later some is) = ap (λ (l : List ℕ). get_or l 6 0) (is) ∙ count-is lies

  counted : Noted room number reason after → set after 6 (b.faults.count + 1) ≡ marked next end b (faulted b.faults number reason)
  unfolding parts_of faulted
  counted (first none is) =
      let zero : b.faults.count ≡ 0 = sym (count-is lies) ∙ none in
      let one : b.faults.count + 1 ≡ 1 = omega arith in
      ap (λ (l : List ℕ). set l 6 (b.faults.count + 1)) (is ∙ ap (λ (l : List ℕ). set (set l 5 number) 7 reason) lies.is)
      ∙ ap (λ (k : ℕ). marked next end b (record { number = number; count = k; reason = reason })) one
      ∙ sym (ap (λ (t : Bool). marked next end b (cond t (record { number = number; count = 1; reason = reason }) (record { number = b.faults.number; count = b.faults.count + 1; reason = b.faults.reason }))) (eq-eqb b.faults.count 0 zero))
  counted (later some is) =
      ap (λ (l : List ℕ). set l 6 (b.faults.count + 1)) (is ∙ lies.is)
      ∙ sym (ap (λ (t : Bool). marked next end b (cond t (record { number = number; count = 1; reason = reason }) (record { number = b.faults.number; count = b.faults.count + 1; reason = b.faults.reason }))) (ne_eqb b.faults.count 0 (λ e. some (count-is lies ∙ e))))

  pub noted_done : Noted room number reason after → set after 6 (get_or after 6 0 + 1) ≡ marked next end b (faulted b.faults number reason)
  noted_done n = ap (λ (k : ℕ). set after 6 (k + 1)) (noted_count n) ∙ counted n
