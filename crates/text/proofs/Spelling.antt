-- Bytes spelt in hex, one after the other.
-- Assumes nothing.
use mathlib.Core.Path.{◌≡◌, refl, ap, ◌∙◌, sym}
use mathlib.Core.List.{List, [], ◌∷◌, ◌++◌}
use Prim.Native.Nat.{ℕ, ◌+◌, ◌*◌, ◌≤◌, ◌<◌}
use native.Mathlib.Numerals.{add-one}
use native.Mathlib.Omega.{arith}
use lib.ListN.{length, get_or, take, length-take}
use lib.Seq.{take-suc, take_all}
use Rattle.wire.specs.Number.{splice}
use Rattle.wire.proofs.Place.{splice_next, splice-none}
use Rattle.io.specs.Digits.{last_digits, IsDigitCount}
use Rattle.text.specs.Hex.{two_of, spelt_of, hex_of}
use Rattle.text.specs.Output.{Put, PutNumber}

length_spelt : (bs : List ℕ) → length (spelt_of bs) ≡ length bs * 2
unfolding spelt_of
length_spelt [] = refl
length_spelt (b ∷ bs) = omega (arith, length_spelt bs)

spelt_append : (bs cs : List ℕ) → spelt_of (bs ++ cs) ≡ spelt_of bs ++ spelt_of cs
unfolding spelt_of
spelt_append [] cs = refl
spelt_append (b ∷ bs) cs = rw (spelt_append bs cs)

spelt_one : (b : ℕ) → spelt_of (b ∷ []) ≡ two_of b
unfolding spelt_of
spelt_one b = refl

module _ (s : List ℕ) (at : ℕ) (bs : List ℕ) (room : at + length bs * 2 ≤ length s) where
  -- the buffer with k bytes spelt
  abbrev pub spelt : ℕ → List ℕ
  spelt k = splice s at (spelt_of (take k bs))

  pub spelt_none : s ≡ spelt 0
  unfolding spelt_of
  spelt_none = sym (splice-none s at)

  pub spelt_more : (k : ℕ) → k < length bs → splice (spelt k) (at + k * 2) (two_of (get_or bs k 0)) ≡ spelt (k + 1)
  spelt_more k there =
      let count : length (spelt_of (take k bs)) ≡ k * 2 = length_spelt (take k bs) ∙ rw length-take (omega arith) in
      let place : at + k * 2 ≡ at + length (spelt_of (take k bs)) = ap (λ (n : ℕ). at + n) (sym count) in
      let more : spelt_of (take (k + 1) bs) ≡ spelt_of (take k bs) ++ two_of (get_or bs k 0) = rw (add-one k, take-suc bs k 0 there, spelt_append (take k bs) (get_or bs k 0 ∷ []), spelt_one) in
      rw (place, more) (splice_next s at (spelt_of (take k bs)) (two_of (get_or bs k 0)) (omega arith))

  pub spelt_all : (k : ℕ) → length bs ≤ k → spelt k ≡ splice s at (spelt_of bs)
  spelt_all k all = rw (take_all k bs all)

  pub spelt_step : (k : ℕ) → k < length bs → (t two new : List ℕ) → t ≡ spelt k → two ≡ two_of (get_or bs k 0) → new ≡ splice t (at + k * 2) two → new ≡ spelt (k + 1)
  spelt_step k there t two new was is-two put = put ∙ rw (was, is-two) (spelt_more k there)

pub spelt_word : (b : List ℕ) → 0 < length b → hex_of b ≡ spelt_of b
unfolding hex_of
spelt_word [] some = absurd (omega arith)
spelt_word (b ∷ bs) some = refl

pub no_word : (b : List ℕ) → length b ≡ 0 → hex_of b ≡ 45 ∷ []
unfolding hex_of
no_word [] none = refl
no_word (b ∷ bs) none = absurd (omega arith)

-- a text that is known by another name
pub put_as : (old : List ℕ) (at : ℕ) (text other : List ℕ) (r : ℕ) (new : List ℕ) → other ≡ text → Put old at text r new → Put old at other r new
put_as old at text other r new e put = rw e put

module _ (old : List ℕ) (at : ℕ) (bs : List ℕ) (some : 0 < length bs) where
  count-is : length (hex_of bs) ≡ length bs * 2
  count-is = ap length (spelt_word bs some) ∙ length_spelt bs

  pub no_room : length old < at + length bs * 2 → Put old at (hex_of bs) (length old) old
  no_room full = record { within = omega arith; fits = λ h. absurd (omega (arith, count-is)); full = λ h. (refl, refl) }

  pub put_spelt : at + length bs * 2 ≤ length old → (new : List ℕ) → length new ≡ length old → new ≡ splice old at (spelt_of bs) → Put old at (hex_of bs) (at + length bs * 2) new
  put_spelt room new same e =
      record {
        within = omega arith;
        fits = λ h. (ap (λ (n : ℕ). at + n) (sym count-is), e ∙ ap (splice old at) (sym (spelt_word bs some)));
        full = λ h. absurd (omega (arith, count-is));
      }

pub put_number_lem : (old : List ℕ) (at n count r : ℕ) (text new : List ℕ) → IsDigitCount 10 1 n count → text ≡ last_digits 10 count n → Put old at text r new → PutNumber old at n r new
put_number_lem old at n count r text new few is-text put = record { count = count; fewest = few; put = rw is-text at put }
