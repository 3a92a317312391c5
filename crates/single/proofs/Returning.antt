-- TOLD, THEN GIVEN: the numbers that a message is told in are those of the message.
-- Assumes nothing.
use mathlib.Core.Path.{◌≡◌, refl, ap, ◌∙◌, sym, subst}
use mathlib.Core.Bool.{Bool, false, ◌||◌}
use mathlib.Core.List.{List, [], ◌∷◌, ◌++◌, append_assoc}
use Prim.Native.Nat.{ℕ, suc, ◌+◌, ◌^◌, ◌≤◌, ◌<◌}
use native.Mathlib.Omega.{arith}
use borrow.Author.Tests.{lt-leb}
use lib.Dec.{leb}
use lib.ListN.{get_or, length, length-append}
use Rattle.wire.specs.Layout.{Field, decode, encode, width_of}
use Rattle.wire.specs.Number.{be, num, part, Bytes}
use Rattle.wire.proofs.Digits.{num_small}
use Rattle.wire.proofs.Layouts.{decode-encode, decode_fits, encode-decode}
use Rattle.wire.proofs.Place.{be-part, length_part, part-add, part_bytes}
use Rattle.message.specs.Layouts.{layout_of, type_in}
use Rattle.std.proofs.Common.{Ok}
use Rattle.message.specs.Reading.{read_of}
use Rattle.message.specs.Row.{fields_of, message_of}
use Rattle.message.specs.declared.kinds.Message.{Message}
use Rattle.message.proofs.Cases.{by_type}
use Rattle.message.proofs.Readings.{taken, Taken}
use Rattle.single.specs.Given.{bytes_from, message_given, row_from, too_wide, wide_from}
use Rattle.single.specs.Words.{message_numbers, total, widths_of, words_at}
use Rattle.single.proofs.Giving.{encode-is, row_fits}
use Rattle.single.proofs.Laying.{laid, layout-none, numbers_are}

-- the widths of a layout come to its bytes
widths_total : (t : ℕ) → width_of (layout_of t) ≡ total (widths_of (layout_of t))
unfolding layout_of
widths_total =
    by_type (λ t. width_of (layout_of t) ≡ total (widths_of (layout_of t))) refl refl refl refl refl refl refl refl refl refl refl
    (λ t h. subst (λ (fs : List Field). width_of fs ≡ total (widths_of fs)) (layout-none t h) refl)

there : (pre rest : List ℕ) (n : ℕ) → get_or (pre ++ (n ∷ rest)) (length pre) 0 ≡ n
there [] rest n = refl
there (x ∷ pre) rest n = there pre rest n

-- numbers that stand behind others: one goes over to those
over_one : (pre more : List ℕ) (n : ℕ) → pre ++ (n ∷ more) ≡ (pre ++ (n ∷ [])) ++ more
over_one pre more n = sym (append_assoc pre (n ∷ []) more)

longer : (pre : List ℕ) (n : ℕ) → suc (length pre) ≡ length (pre ++ (n ∷ []))
longer pre n = let e = length-append pre (n ∷ []) in omega (arith, e)

module _ (s : List ℕ) (bytes : Bytes s) where
  words_bytes : (ws pre rest : List ℕ) (at : ℕ) → at + total ws ≤ length s → bytes_from ws (length pre) (pre ++ (words_at ws at s ++ rest)) ≡ part s at (total ws)
  words_bytes [] pre rest at h = refl
  words_bytes (w ∷ ws) pre rest at h =
      let n = num (part s at w) in
      let more = words_at ws (at + w) s ++ rest in
      ap (λ (k : ℕ). be w k ++ bytes_from ws (suc (length pre)) (pre ++ (n ∷ more))) (there pre more n)
      ∙ ap (λ (l : List ℕ). l ++ bytes_from ws (suc (length pre)) (pre ++ (n ∷ more))) (be-part s at w bytes (omega arith))
      ∙ ap (λ (l : List ℕ). part s at w ++ bytes_from ws (suc (length pre)) l) (over_one pre more n)
      ∙ ap (λ (k : ℕ). part s at w ++ bytes_from ws k ((pre ++ (n ∷ [])) ++ more)) (longer pre n)
      ∙ ap (λ (l : List ℕ). part s at w ++ l) (words_bytes ws (pre ++ (n ∷ [])) rest (at + w) (omega arith))
      ∙ part-add s at w (total ws) h

  small : (at w : ℕ) → at + w ≤ length s → num (part s at w) < 256 ^ w
  small at w h = subst (λ (k : ℕ). num (part s at w) < 256 ^ k) (length_part s at w h) (num_small (part s at w) (part_bytes s at w bytes))

  words_fit : (ws pre rest : List ℕ) (at : ℕ) → at + total ws ≤ length s → wide_from ws (length pre) (pre ++ (words_at ws at s ++ rest)) ≡ false
  words_fit [] pre rest at h = refl
  words_fit (w ∷ ws) pre rest at h =
      let n = num (part s at w) in
      let more = words_at ws (at + w) s ++ rest in
      ap (λ (k : ℕ). leb (256 ^ w) k || wide_from ws (suc (length pre)) (pre ++ (n ∷ more))) (there pre more n)
      ∙ ap (λ (b : Bool). b || wide_from ws (suc (length pre)) (pre ++ (n ∷ more))) (lt-leb (256 ^ w) n (small at w (omega arith)))
      ∙ ap (λ (l : List ℕ). wide_from ws (suc (length pre)) l) (over_one pre more n)
      ∙ ap (λ (k : ℕ). wide_from ws k ((pre ++ (n ∷ [])) ++ more)) (longer pre n)
      ∙ words_fit ws (pre ++ (n ∷ [])) rest (at + w) (omega arith)

  module _ (t : ℕ) (rest : List ℕ) (room : 3 + total (widths_of (layout_of t)) ≤ length s) where
    abbrev given : List ℕ
    given = t ∷ (words_at (widths_of (layout_of t)) 3 s ++ rest)

    fit : wide_from (widths_of (layout_of t)) 1 given ≡ false
    fit = words_fit (widths_of (layout_of t)) (t ∷ []) rest 3 room

    -- the row from the numbers is the one that stands in the bytes: both are written alike
    row_given : row_from (layout_of t) 1 given ≡ decode (layout_of t) 3 s
    row_given =
        let fs = layout_of t in
        let pre : List ℕ = 0 ∷ 0 ∷ 0 ∷ [] in
        let wide : 3 + width_of fs ≤ length s = omega (arith, room, widths_total t) in
        let alike : encode fs (row_from fs 1 given) ≡ encode fs (decode fs 3 s) =
        encode-is t given
        ∙ words_bytes (widths_of fs) (t ∷ []) rest 3 room
        ∙ ap (part s 3) (sym (widths_total t))
        ∙ sym (encode-decode fs 3 s bytes wide) in
        sym (decode-encode fs (row_from fs 1 given) pre [] (row_fits fs 1 given fit))
        ∙ ap (λ (l : List ℕ). decode fs 3 (pre ++ (l ++ []))) alike
        ∙ decode-encode fs (decode fs 3 s) pre [] (decode_fits fs 3 s bytes wide)

-- For every byte string that reading accepts: the numbers that it is told in, whatever stands behind them, are no wider than their
-- fields, and the message that they give is the one that was read.
pub told_given : (s : List ℕ) (m : Message) (rest : List ℕ) → Bytes s → read_of s ≡ Ok m → (too_wide (message_numbers m ++ rest) ≡ false) × (message_given (message_numbers m ++ rest) ≡ m)
unfolding fields_of too_wide
told_given s m rest bytes read =
    let f : Taken s m = taken s m read in
    let t = type_in s in
    let l = laid t (length s) f.least f.enough in
    let room : 3 + total (widths_of (layout_of t)) ≤ length s = l.room in
    let numbers : message_numbers m ≡ t ∷ words_at (widths_of (layout_of t)) 3 s = sym (ap message_numbers f.fields) ∙ numbers_are t s in
    let byte : t < 256 = small s bytes 2 1 (omega (arith, f.least)) in (
      ap (λ (ns : List ℕ). too_wide (ns ++ rest)) numbers ∙ simp (lt-leb 256 t byte) (fit s bytes t rest room),
      ap (λ (ns : List ℕ). message_given (ns ++ rest)) numbers ∙ ap (message_of t) (row_given s bytes t rest room) ∙ f.fields,
    )
