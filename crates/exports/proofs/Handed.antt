-- Lent bytes as packets: what the engine does with those that are due.
-- Assumes nothing.
use mathlib.Core.Path.{◌≡◌, refl, ap, ◌∙◌, sym}
use mathlib.Core.Bool.{Bool, true, false, cond, not}
use mathlib.Core.List.{List, [], ◌∷◌}
use Prim.Native.Nat.{ℕ, ◌+◌, ◌-◌, ◌*◌, ◌/◌}
use native.Mathlib.Omega.{arith}
use borrow.Author.Tests.{le-ltb}
use lib.Dec.{eqb, leb, ltb}
use lib.ListN.{length}
use Rattle.std.specs.Prelude.{Option, Some, None, Result}
use Rattle.refusals.specs.declared.Refusal.{Refusal}
use Rattle.wire.specs.Number.{splice}
use Rattle.wire.proofs.Place.{splice-none}
use Rattle.merge.specs.State.{apply_up_to, take_all}
use Rattle.window_taking.specs.Turns.{end_from, packets_from, packets_in}
use Rattle.session.specs.Meaning.{Held, Meaning, feed, overnight, rep}
use Rattle.session.specs.Bursts.{count_if, rows_of}
use Rattle.session.proofs.Calls.{chosen, one_packet, short}
use Rattle.exports.specs.Handed.{answers_by, bytes_by, due_of, most_by, packets_by, short_by, taken_by, taken_told}
use Rattle.exports.specs.Kept.{count_numbers}
use Rattle.single.specs.Over.{over}

-- ---- either kind of bytes

other_way : {A : Type 0} (b : Bool) (x y : A) → cond (not b) x y ≡ cond b y x
other_way true x y = refl
other_way false x y = refl

packets_by_lem : (count : ℕ) (s : List ℕ) (b : Bool) → packets_from (not b) (cond b count 1) 0 s ≡ cond b (packets_in count s) (s ∷ [])
packets_by_lem count s true = refl
packets_by_lem count s false = one_packet s

one_end : (s : List ℕ) → end_from true 1 0 s ≡ length s
unfolding end_from
one_end s =
    let e : 0 + (length s - 0) ≡ length s = omega arith in
    ap (λ (b : Bool). cond b 0 (0 + (length s - 0))) (le-ltb (length s) (0 + (length s - 0)) (omega arith)) ∙ e

end_by : (count : ℕ) (s : List ℕ) (b : Bool) → end_from (not b) (cond b count 1) 0 s ≡ cond b (end_from false count 0 s) (length s)
end_by count s true = refl
end_by count s false = one_end s

-- ---- how many are due

some_by : (b : Bool) (m : ℕ) {d : ℕ} → cond b (Some m) None ≡ Some d → (true ≡ b) × (d ≡ m)
some_by true m e = (refl, cc)
some_by false m e = absurd (cc)

none_by : (b : Bool) (m : ℕ) → cond b (Some m) None ≡ None → false ≡ b
none_by true m e = absurd (cc)
none_by false m e = refl

module _ (one : Bool) (count n : ℕ) {r : Option ℕ} (is : r ≡ due_of one count n) where
  pub some_due : {due : ℕ} → r ≡ Some due → (true ≡ leb (cond one 1 count) (n / 4)) × (due ≡ cond one 1 count)
  some_due e = some_by (leb (cond one 1 count) (n / 4)) (cond one 1 count) (sym is ∙ e)

  pub none_due : r ≡ None → false ≡ leb (cond one 1 count) (n / 4)
  none_due e = none_by (leb (cond one 1 count) (n / 4)) (cond one 1 count) (sym is ∙ e)

-- ---- where the answers do not fit

module _ (x : Meaning) (single count : ℕ) (s answers : List ℕ) (short : short_by single count (length answers) ≡ true) where
  pub taken_none : {h : Held} → h ≡ rep x → h ≡ rep (taken_by x single count s (length answers))
  unfolding taken_by
  taken_none e = e ∙ ap rep (sym (simp short))

  pub rows_none : answers ≡ answers_by x single count s answers
  unfolding answers_by
  rows_none = sym (simp short)

  pub told_none : (old : List ℕ) → over (11 ∷ 0 ∷ 0 ∷ []) old ≡ taken_told single count s (length answers) old
  unfolding taken_told
  told_none old = sym (simp short)

-- ---- the three numbers

three : (fits : Bool) (taken bytes : ℕ) (old : List ℕ) → over (count_numbers (count_if fits (cond (not fits) 0 taken)) (cond (not fits) 0 bytes)) old ≡ cond (not fits) (over (11 ∷ 0 ∷ 0 ∷ []) old) (over (0 ∷ taken ∷ bytes ∷ []) old)
three true taken bytes old = refl
three false taken bytes old = refl

module _ (x : Meaning) (single count : ℕ) (s answers : List ℕ) {one : Bool} (kind : one ≡ not (eqb single 0)) {most : ℕ} (counts : most ≡ cond one 1 count) {fits : Bool} (test : fits ≡ leb most (length answers / 4)) {due : ℕ} (dues : due ≡ cond fits most 0) where
  mosts : most ≡ most_by single count
  mosts = counts ∙ ap (λ (b : Bool). cond b 1 count) kind ∙ other_way (eqb single 0) 1 count

  -- what comes of those that are due is what comes of all, or nothing
  by_room : {A : Type 0} (after : ℕ → A) {none : A} → after 0 ≡ none → after due ≡ cond (short_by single count (length answers)) none (after most)
  by_room after {none} nothing = chosen x s answers most test dues after nothing ∙ ap (λ (n : ℕ). cond (ltb (length answers) (4 * n)) none (after most)) mosts

  all : packets_from one most 0 s ≡ packets_by single count s
  all = (λ i. packets_from (kind i) (mosts i) 0 s) ∙ packets_by_lem count s (eqb single 0)

  end : end_from one most 0 s ≡ bytes_by single count s
  end = (λ i. end_from (kind i) (mosts i) 0 s) ∙ end_by count s (eqb single 0)

  pub taken_all : {after : Held} → after ≡ rep (take_all overnight (apply_up_to feed 0 x) (packets_from one due 0 s)) → after ≡ rep (taken_by x single count s (length answers))
  unfolding taken_by take_all packets_from apply_up_to
  taken_all e =
      e ∙ ap rep (by_room (λ (n : ℕ). take_all overnight x (packets_from one n 0 s)) refl)
      ∙ ap (λ (ps : List (List ℕ)). rep (cond (short_by single count (length answers)) x (take_all overnight x ps))) all

  pub rows_all : {after : List ℕ} → after ≡ splice answers 0 (rows_of (apply_up_to feed 0 x) (packets_from one due 0 s)) → after ≡ answers_by x single count s answers
  unfolding answers_by rows_of packets_from apply_up_to
  rows_all e =
      e ∙ by_room (λ (n : ℕ). splice answers 0 (rows_of x (packets_from one n 0 s))) (splice-none answers 0)
      ∙ ap (λ (ps : List (List ℕ)). cond (short_by single count (length answers)) answers (splice answers 0 (rows_of x ps))) all

  taken_count : {taken : ℕ} → taken ≡ length (packets_from one due 0 s) → taken ≡ cond (short_by single count (length answers)) 0 (length (packets_by single count s))
  unfolding packets_from
  taken_count e =
      e ∙ by_room (λ (n : ℕ). length (packets_from one n 0 s)) refl
      ∙ ap (λ (ps : List (List ℕ)). cond (short_by single count (length answers)) 0 (length ps)) all

  taken_bytes : {at : ℕ} → at ≡ end_from one due 0 s → at ≡ cond (short_by single count (length answers)) 0 (bytes_by single count s)
  unfolding end_from
  taken_bytes e = e ∙ by_room (λ (n : ℕ). end_from one n 0 s) refl ∙ ap (cond (short_by single count (length answers)) 0) end

  pub fitting : short_by single count (length answers) ≡ not fits
  fitting = ap (λ (n : ℕ). ltb (length answers) (4 * n)) (sym mosts) ∙ short x s answers most test dues

  pub told_all : (old : List ℕ) {packets : Result ℕ Refusal} {taken at : ℕ} → packets ≡ count_if fits taken → taken ≡ length (packets_from one due 0 s) → at ≡ end_from one due 0 s
      → over (count_numbers packets at) old ≡ taken_told single count s (length answers) old
  unfolding taken_told
  told_all old p t e =
      let n = length (packets_by single count s) in
      let end = bytes_by single count s in
      (λ i. over (count_numbers ((p ∙ ap (count_if fits) (taken_count t ∙ ap (λ (b : Bool). cond b 0 n) fitting)) i) ((taken_bytes e ∙ ap (λ (b : Bool). cond b 0 end) fitting) i)) old)
      ∙ three fits n end old
      ∙ ap (λ (b : Bool). cond b (over (11 ∷ 0 ∷ 0 ∷ []) old) (over (0 ∷ n ∷ end ∷ []) old)) (sym fitting)
