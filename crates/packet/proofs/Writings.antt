-- Writing a header: which test decides, what stays, and the two round trips.
-- Assumes nothing.
use mathlib.Core.Path.{◌≡◌, refl, ap, ◌∙◌, sym, subst}
use mathlib.Core.Bool.{Bool, true, false}
use mathlib.Core.List.{List, []}
use Prim.Native.Nat.{ℕ, ◌+◌, ◌≤◌, ◌<◌}
use native.Mathlib.Omega.{arith}
use borrow.Author.Tests.{lt-ltb, le-ltb, eq-eqb, ne_eqb, ltb-false, eqb-true, not-false}
use lib.Dec.{eqb}
use lib.ListN.{length, drop}
use Rattle.wire.specs.Layout.{Fits, put_row}
use Rattle.wire.specs.Number.{Bytes, splice}
use Rattle.wire.proofs.Choice.{passed}
use Rattle.wire.proofs.Layouts.{decode-encode, encode-decode}
use Rattle.wire.proofs.Place.{length-splice, splice-part}
use Rattle.std.proofs.Common.{Ok, Err}
use Rattle.refusals.specs.Refusals.{answered, refusal_by}
use Rattle.refusals.specs.declared.Refusal.{Refusal}
use Rattle.refusals.specs.declared.Refusal.TheVariants.{NoRoom, RuleBroken}
use Rattle.packet.specs.Header.{Judged, decided, flags_of, header_from, header_in, header_of, header_tests, judged, layout}
use Rattle.packet.specs.Writing.{answer_of, buffer_after, header_bytes, row_of, tests}
use Rattle.packet.specs.declared.header.Header.{Header}
use Rattle.packet.proofs.Headers.{Passed, flags, passed as passed-header, whole}

module _ (h : Header) (n : ℕ) where
  pub small : h.size < 12 → Err RuleBroken ≡ answer_of h n
  unfolding answer_of
  small e = simp (lt-ltb _ _ e)

  module _ (least : 12 ≤ h.size) where
    pub large : 1472 < h.size → Err RuleBroken ≡ answer_of h n
    unfolding answer_of
    large e = simp (le-ltb _ _ least, lt-ltb _ _ e)

    module _ (most : h.size ≤ 1472) where
      pub forbidden : ((decided (flags_of h)).0 ≡ 0 → ⊥) → Err RuleBroken ≡ answer_of h n
      unfolding answer_of
      forbidden e = simp (le-ltb _ _ least, le-ltb _ _ most, ne_eqb _ _ e)

      module _ (allowed : (decided (flags_of h)).0 ≡ 0) where
        pub narrow : n < 12 → Err NoRoom ≡ answer_of h n
        unfolding answer_of
        narrow e = simp (le-ltb _ _ least, le-ltb _ _ most, eq-eqb _ _ allowed, lt-ltb _ _ e)

        pub fits : 12 ≤ n → Ok 12 ≡ answer_of h n
        unfolding answer_of
        fits e = simp (le-ltb _ _ least, le-ltb _ _ most, eq-eqb _ _ allowed, le-ltb _ _ e)

-- a count: no test applied
pub record Counted (h : Header) (n k : ℕ) : Type 0 where
  pub least : 12 ≤ h.size
  pub most : h.size ≤ 1472
  pub flags : (decided (flags_of h)).0 ≡ 0
  pub room : 12 ≤ n
  pub whole : k ≡ 12

refused≢count : (refusal : Refusal) (k : ℕ) → Err refusal ≡ Ok k → ⊥
refused≢count refusal k e = let z : ◌≡◌ {A = ℕ} 0 1 = cc in omega arith

pub counted : (h : Header) (n k : ℕ) → answer_of h n ≡ Ok k → Counted h n k
unfolding answer_of
counted h n k e =
    let d = passed (tests h n) (Ok 12) (Ok k) (refused≢count RuleBroken k, (refused≢count RuleBroken k, (refused≢count RuleBroken k, (refused≢count NoRoom k, tt)))) e in
    record {
      least = ltb-false _ _ d.0.0;
      most = ltb-false _ _ d.0.1.0;
      flags = eqb-true _ _ (not-false _ d.0.1.1.0);
      room = ltb-false _ _ d.0.1.1.1.0;
      whole = cc;
    }

-- a refusal leaves the buffer; a count has put the row
pub kept : (h : Header) (buf : List ℕ) {refusal : Refusal} → answer_of h (length buf) ≡ Err refusal → buf ≡ buffer_after h buf
unfolding buffer_after
kept h buf e = rw e

pub placed : (h : Header) (buf : List ℕ) {k : ℕ} {after : List ℕ} → answer_of h (length buf) ≡ Ok k → after ≡ put_row layout (row_of h) buf 0 → after ≡ buffer_after h buf
unfolding buffer_after
placed h buf e put = put ∙ rw e

-- Written, then read: the header that writing accepts stands in the buffer,
pub stands : (h : Header) (buf : List ℕ) {k : ℕ} → Fits layout (row_of h) → answer_of h (length buf) ≡ Ok k → header_in (buffer_after h buf) ≡ h
unfolding buffer_after put_row splice
stands h buf fit e = rw e (ap header_from (decode-encode layout (row_of h) [] (drop (0 + length (header_bytes h)) buf) fit))

kept_length : (h : Header) (buf : List ℕ) {k : ℕ} → answer_of h (length buf) ≡ Ok k → length (buffer_after h buf) ≡ length buf
unfolding buffer_after put_row
kept_length h buf {k} e = rw e (length-splice buf 0 (header_bytes h) (counted h (length buf) k e).room)

-- and reading gives it back where the buffer is as long as the header says.
pub written_reads : (h : Header) (buf : List ℕ) {k : ℕ} → Fits layout (row_of h) → answer_of h (length buf) ≡ Ok k → length buf ≡ h.size → header_of (buffer_after h buf) ≡ Ok h
written_reads h buf {k} fit e sized =
    let s = buffer_after h buf in
    let c : Counted h (length buf) k = counted h (length buf) k e in
    let read : h ≡ header_in s = sym (stands h buf fit e) in
    let long : length s ≡ h.size = kept_length h buf e ∙ sized in
    let told : judged (decided (flags_of h)) ≡ judged (decided (header_tests s)) =
    flags s (omega (arith, c.least)) (omega (arith, c.most)) read (sym long) in
    sym (whole s (ap (λ (x : Judged). x.test) (sym told) ∙ c.flags) read)

-- Read, then written: what reading accepts is accepted by writing, and goes back to its own bytes.
accepted : (s : List ℕ) (h : Header) (test : ℕ) → answered test (header_in s) ≡ Ok h → (test ≡ 0) × (header_in s ≡ h)
accepted s h test e = go (eqb test 0) refl
  where
    go : (b : Bool) → eqb test 0 ≡ b → (test ≡ 0) × (header_in s ≡ h)
    go true z =
        let f : Ok (header_in s) ≡ Ok h = simp z at e in
        (eqb-true test 0 z, cc)
    go false z =
        let f : Err (refusal_by test) ≡ Ok h = simp z at e in
        let no : ◌≡◌ {A = ℕ} 0 1 = cc in
        absurd (omega arith)

pub record WritesBack (h : Header) (s : List ℕ) : Type 0 where
  pub accepted : answer_of h (length s) ≡ Ok 12
  pub same : buffer_after h s ≡ s

back : (s : List ℕ) → Bytes s → 12 ≤ length s → put_row layout (row_of (header_in s)) s 0 ≡ s
unfolding put_row
back s bytes least = ap (splice s 0) (encode-decode layout 0 s bytes least) ∙ splice-part s 0 12 least

again : (s : List ℕ) → Bytes s → Passed s → WritesBack (header_in s) s
again s bytes p =
    let e : Ok 12 ≡ answer_of (header_in s) (length s) =
    fits (header_in s) (length s) (omega (arith, p.whole, p.least)) (omega (arith, p.whole, p.most)) p.flags p.least in
    record { accepted = sym e; same = sym (placed (header_in s) s (sym e) (sym (back s bytes p.least))) }

pub read_writes : (s : List ℕ) (h : Header) → Bytes s → header_of s ≡ Ok h → WritesBack h s
unfolding header_of
read_writes s h bytes e =
    let a = accepted s h (decided (header_tests s)).0 e in
    subst (λ (x : Header). WritesBack x s) a.1 (again s bytes (passed-header s a.0))
