-- A message given by its numbers: the bytes that they are put in read as the message.
-- Assumes nothing.
use mathlib.Core.Path.{◌≡◌, refl, ap, ◌∙◌, sym, subst}
use mathlib.Core.Bool.{Bool, true, false, ◌||◌, true≢false}
use mathlib.Core.List.{List, [], ◌∷◌, ◌++◌, append-nil}
use Prim.Native.Nat.{ℕ, suc, ◌+◌, ◌^◌, ◌≤◌, ◌<◌}
use native.Mathlib.Omega.{arith}
use borrow.Author.Tests.{eqb-true, leb-false, le-leb, lt-leb, ne_eqb}
use lib.Dec.{eqb, leb}
use lib.ListN.{drop, get_or, length, length-append, replicate, take}
use Rattle.wire.specs.Layout.{Field, number, text, decode, encode, Fits, Holds}
use Rattle.wire.specs.Number.{be, splice, Bytes}
use Rattle.std.proofs.Common.{Ok, Err}
use Rattle.refusals.specs.declared.Refusal.{Refusal}
use Rattle.refusals.specs.declared.Refusal.TheVariants.{RuleBroken}
use Rattle.wire.proofs.Digits.{be_bytes, length-be}
use Rattle.wire.proofs.Layouts.{decode-encode}
use Rattle.wire.proofs.Place.{length-splice}
use Rattle.message.specs.Layouts.{layout_of}
use Rattle.message.specs.Row.{fields_of, message_of}
use Rattle.message.specs.Table.{payload_of, too_short}
use Rattle.message.specs.declared.kinds.Message.{Message}
use Rattle.message.proofs.Cases.{by_type, Unopened}
use Rattle.message_write.specs.Writing.{buffer_after, write_of}
use Rattle.single.specs.Given.{bytes_from, given_buffer, given_of, message_given, message_if, row_from, too_wide, type_given, value_from, wide_from}
use Rattle.single.specs.Words.{total, widths_in, widths_of, Laid}
use Rattle.single.proofs.Laying.{laid, layout-none}

-- ---- 55 bytes are enough for every type

unlisted_short : (t : ℕ) → Unopened t → (b : Bool) → eqb t 28 ≡ b → too_short t 55 ≡ false
unfolding payload_of
unlisted_short t h true e = ap (λ (k : ℕ). too_short k 55) (eqb-true t 28 e)
unlisted_short t h false e =
    simp (ne_eqb t 9 h.0.0.0.0.0.0.0.0.0.0.1, ne_eqb t 11 h.0.0.0.0.0.0.0.0.0.1, ne_eqb t 12 h.0.0.0.0.0.0.0.0.1, ne_eqb t 20 h.0.0.0.0.0.0.0.1, ne_eqb t 21 h.0.0.0.0.0.0.1, ne_eqb t 22 h.0.0.0.0.0.1, ne_eqb t 23 h.0.0.0.0.1, ne_eqb t 24 h.0.0.0.1, ne_eqb t 25 h.0.0.1, ne_eqb t 26 h.0.1, ne_eqb t 27 h.1, e)

enough : (t : ℕ) → too_short t 55 ≡ false
unfolding payload_of
enough = by_type (λ t. too_short t 55 ≡ false) refl refl refl refl refl refl refl refl refl refl refl (λ t h. unlisted_short t h (eqb t 28) refl)

pub words_laid : (t : ℕ) {words : List ℕ} → words ≡ widths_of (layout_of t) → Laid words 55
words_laid t e = subst (λ (words : List ℕ). Laid words 55) (sym e) (laid t 55 (omega arith) (enough t))

length_given : (ws : List ℕ) (k : ℕ) (ns : List ℕ) → length (bytes_from ws k ns) ≡ total ws
length_given [] k ns = refl
length_given (w ∷ ws) k ns =
    length-append (be w (get_or ns k 0)) (bytes_from ws (suc k) ns) ∙ ap (λ (n : ℕ). n + length (bytes_from ws (suc k) ns)) (length-be w (get_or ns k 0)) ∙ ap (λ (n : ℕ). w + n) (length_given ws (suc k) ns)

pub filled : (t : ℕ) (ns : List ℕ) {words bytes : List ℕ} → words ≡ widths_of (layout_of t) → bytes ≡ splice (replicate 55 0) 3 (bytes_from words 1 ns) → too_short t (length bytes) ≡ false
filled t ns {words} {bytes} are put =
    let zeros : List ℕ = replicate 55 0 in
    let within : 3 + length (bytes_from words 1 ns) ≤ 55 = omega (arith, (words_laid t are).room, length_given words 1 ns) in
    let long : length bytes ≡ 55 = ap length put ∙ length-splice zeros 3 (bytes_from words 1 ns) within in
    ap (too_short t) long ∙ enough t

-- ---- the row that the numbers are

or_assoc : (a b c : Bool) → (a || (b || c)) ≡ ((a || b) || c)
or_assoc true b c = refl
or_assoc false b c = refl

or_both : (a b : Bool) → (a || b) ≡ false → (a ≡ false) × (b ≡ false)
or_both true b h = (h, absurd (true≢false h))
or_both false b h = (refl, h)

wide_append : (xs ys : List ℕ) (k : ℕ) (ns : List ℕ) → wide_from (xs ++ ys) k ns ≡ (wide_from xs k ns || wide_from ys (k + length xs) ns)
wide_append [] ys k ns = let e : k ≡ k + 0 = omega arith in ap (λ (j : ℕ). wide_from ys j ns) e
wide_append (x ∷ xs) ys k ns =
    let up : suc k + length xs ≡ k + suc (length xs) = omega arith in
    let a = leb (256 ^ x) (get_or ns k 0) in
    ap (λ (b : Bool). a || b) (wide_append xs ys (suc k) ns ∙ ap (λ (j : ℕ). wide_from xs (suc k) ns || wide_from ys j ns) up)
    ∙ or_assoc a (wide_from xs (suc k) ns) (wide_from ys (k + suc (length xs)) ns)

bytes_append : (xs ys : List ℕ) → Bytes xs → Bytes ys → Bytes (xs ++ ys)
bytes_append [] ys h g = g
bytes_append (x ∷ xs) ys h g = (h.0, bytes_append xs ys h.1 g)

bytes_given : (ws : List ℕ) (k : ℕ) (ns : List ℕ) → Bytes (bytes_from ws k ns)
bytes_given [] k ns = tt
bytes_given (w ∷ ws) k ns = bytes_append (be w (get_or ns k 0)) (bytes_from ws (suc k) ns) (be_bytes w (get_or ns k 0)) (bytes_given ws (suc k) ns)

text_holds : (w k : ℕ) (ns : List ℕ) → Holds (text w) (value_from (text w) k ns)
text_holds w k ns = go (eqb w 14) refl
  where
    go : (b : Bool) → eqb w 14 ≡ b → Holds (text w) (value_from (text w) k ns)
    go true e =
        subst (λ (v : ℕ). Holds (text v) (value_from (text v) k ns)) (sym (eqb-true w 14 e))
        (refl, bytes_given (8 ∷ 4 ∷ 2 ∷ []) k ns)
    go false e =
        simp (e, append-nil (be w (get_or ns k 0))) (length-be w (get_or ns k 0), be_bytes w (get_or ns k 0))

holds : (f : Field) (k : ℕ) (ns : List ℕ) → wide_from (widths_in f) k ns ≡ false → Holds f (value_from f k ns)
holds (number w) k ns h = leb-false _ _ (or_both _ _ h).0
holds (text w) k ns h = text_holds w k ns

pub row_fits : (fs : List Field) (k : ℕ) (ns : List ℕ) → wide_from (widths_of fs) k ns ≡ false → Fits fs (row_from fs k ns)
row_fits [] k ns h = tt
row_fits (f ∷ fs) k ns h =
    let e = or_both _ _ (sym (wide_append (widths_in f) (widths_of fs) k ns) ∙ h) in
    (holds f k ns e.0, row_fits fs (k + length (widths_in f)) ns e.1)

abbrev EncodeIs : ℕ → Type 0
EncodeIs t = (ns : List ℕ) → encode (layout_of t) (row_from (layout_of t) 1 ns) ≡ bytes_from (widths_of (layout_of t)) 1 ns

pub encode-is : (t : ℕ) → EncodeIs t
unfolding layout_of
encode-is =
    by_type EncodeIs (λ ns. refl) (λ ns. refl) (λ ns. refl) (λ ns. refl) (λ ns. refl) (λ ns. refl) (λ ns. refl) (λ ns. refl) (λ ns. refl) (λ ns. refl) (λ ns. refl)
    (λ t h ns. subst (λ (fs : List Field). encode fs (row_from fs 1 ns) ≡ bytes_from (widths_of fs) 1 ns) (layout-none t h) refl)

-- the bytes that the numbers are put in read as the message
message_there : (t : ℕ) (ns : List ℕ) {bytes : List ℕ} → bytes ≡ splice (replicate 55 0) 3 (bytes_from (widths_of (layout_of t)) 1 ns) → wide_from (widths_of (layout_of t)) 1 ns ≡ false
    → fields_of t bytes ≡ message_of t (row_from (layout_of t) 1 ns)
unfolding fields_of splice
message_there t ns put good =
    let zeros : List ℕ = replicate 55 0 in
    let bs = bytes_from (widths_of (layout_of t)) 1 ns in
    let fs = layout_of t in
    ap (λ (s : List ℕ). message_of t (decode fs 3 s)) put
    ∙ ap (λ (l : List ℕ). message_of t (decode fs 3 (take 3 zeros ++ (l ++ drop (3 + length bs) zeros)))) (sym (encode-is t ns))
    ∙ ap (message_of t) (decode-encode fs (row_from fs 1 ns) (take 3 zeros) (drop (3 + length bs) zeros) (row_fits fs 1 ns good))

-- ---- the message that the numbers give

module _ (ns : List ℕ) where
  by_wide : too_wide ns ≡ true → Err RuleBroken ≡ message_if ns
  by_wide h = sym (simp h)

  pub type_wide : 256 ≤ type_given ns → Err RuleBroken ≡ message_if ns
  unfolding too_wide
  type_wide h = by_wide (simp (le-leb 256 (type_given ns) h))

  module _ (small : type_given ns < 256) {words : List ℕ} (are : words ≡ widths_of (layout_of (type_given ns))) {r : Bool} (said : r ≡ wide_from words 1 ns) where
    told_wide : r ≡ wide_from (widths_of (layout_of (type_given ns))) 1 ns
    told_wide = said ∙ ap (λ (ws : List ℕ). wide_from ws 1 ns) are

    wide_is : too_wide ns ≡ r
    unfolding too_wide
    wide_is = simp (lt-leb 256 (type_given ns) small) (sym told_wide)

    pub field_wide : r ≡ true → Err RuleBroken ≡ message_if ns
    field_wide e = by_wide (wide_is ∙ e)

    pub all_fit : r ≡ false → {bytes : List ℕ} → bytes ≡ splice (replicate 55 0) 3 (bytes_from words 1 ns) → {m : Message} → m ≡ fields_of (type_given ns) bytes → Ok m ≡ message_if ns
    all_fit e {bytes} put {m} read =
        let is : m ≡ message_given ns =
        read
        ∙ message_there (type_given ns) ns (put ∙ ap (λ (ws : List ℕ). splice (replicate 55 0) 3 (bytes_from ws 1 ns)) are) (sym told_wide ∙ e) in
        ap Ok is ∙ sym (simp (wide_is ∙ e))

-- ---- what writing answers

module _ (ns buf : List ℕ) (at : ℕ) where
  pub none_given : {refusal : Refusal} → Err refusal ≡ message_if ns → (Err refusal ≡ given_of ns buf at) × (buf ≡ given_buffer ns buf at)
  unfolding given_of given_buffer
  none_given {refusal} h = go (too_wide ns) refl
    where
      go : (b : Bool) → too_wide ns ≡ b → (Err refusal ≡ given_of ns buf at) × (buf ≡ given_buffer ns buf at)
      go true e =
          let f : Err refusal ≡ Err RuleBroken = simp e at h in
          let same : refusal ≡ RuleBroken = cc in
          (ap Err same ∙ sym (simp e), sym (simp e))
      go false e =
          let f : Err refusal ≡ Ok (message_given ns) = simp e at h in
          let no : ◌≡◌ {A = ℕ} 0 1 = cc in
          absurd (omega arith)

  pub one_given : {m : Message} → Ok m ≡ message_if ns → (write_of m buf at ≡ given_of ns buf at) × (buffer_after m buf at ≡ given_buffer ns buf at)
  unfolding given_of given_buffer
  one_given {m} h = go (too_wide ns) refl
    where
      go : (b : Bool) → too_wide ns ≡ b → (write_of m buf at ≡ given_of ns buf at) × (buffer_after m buf at ≡ given_buffer ns buf at)
      go true e =
          let f : Ok m ≡ Err RuleBroken = simp e at h in
          let no : ◌≡◌ {A = ℕ} 0 1 = cc in
          absurd (omega arith)
      go false e =
          let f : Ok m ≡ Ok (message_given ns) = simp e at h in
          let same : m ≡ message_given ns = cc in
          (ap (λ (x : Message). write_of x buf at) same ∙ sym (simp e), ap (λ (x : Message). buffer_after x buf at) same ∙ sym (simp e))
