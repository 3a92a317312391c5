-- The messages that are applied straight from a packet wait in their order.
-- Assumes nothing.
use mathlib.Core.Path.{◌≡◌, refl, ap, ◌∙◌, sym, subst}
use mathlib.Core.Bool.{Bool, true, false, cond}
use mathlib.Core.List.{List, [], ◌∷◌, map}
use mathlib.Core.Logic.{by_cases}
use mathlib.Core.Option.{Option, none, some}
use Prim.Native.Nat.{ℕ, zero, suc, ◌+◌, ◌-◌, ◌≤◌, min}
use native.Mathlib.Decide.{dec_lt, ℕ_discrete}
use native.Mathlib.Omega.{arith}
use borrow.Author.Tests.{eqb-true, eq-eqb, ne_eqb}
use lib.Dec.{eqb}
use lib.ListN.{length, length-map}
use Rattle.wire.specs.Number.{Bytes, num, part}
use Rattle.merge.specs.State.{Packet, State, copy_of, first_there, heartbeat, keep, kept_at, packet, kept_if}
use Rattle.merge.specs.Places.{number_at}
use Rattle.merge.proofs.Clauses.{kept_new, kept_old}
use Rattle.merge.proofs.Copies.{copy_head, copy_none, copy_rest}
use Rattle.packet.specs.Header as header
use Rattle.packet.specs.Header.{decided, header_in}
use Rattle.packet.specs.Walk.{frames_from, size_at, walk_from}
use Rattle.std.specs.Prelude.{None}
use Rattle.packet.proofs.Judgements.{and_left, and_right}
use Rattle.window.specs.Window.{window_of}
use Rattle.wire.proofs.Parts.{part_long, part-part}
use Rattle.window_taking.specs.Taking.{bytes_at, frames_in, judge, packet_in, take_tests}
use Rattle.window_taking.specs.Keeping.{count_of, kept_by, starts_at, straight_in, window_for}
use Rattle.window_taking.specs.Turns.{length_at}
use Rattle.window_taking.specs.Ahead.{Ahead, freed}
use Rattle.window_taking.proofs.Accepted.{judged, length_frames}
use Rattle.window_taking.proofs.Passing.{Walks, first_part, walks}
use Rattle.window_taking.proofs.Walks.{Goes, goes}
use Rattle.window_taking.proofs.Windows.{same_window}

-- a window that holds nothing
abbrev empty : List ℕ
empty = window_of (λ (place : ℕ). none)

nothing : (waiting : ℕ → Option (List ℕ)) (next : ℕ) → ((k : ℕ) → waiting k ≡ none) → window_for waiting next ≡ empty
unfolding window_for
nothing waiting next h = same_window (λ place. waiting (number_at 256 next place)) (λ place. none) (λ i l. h (number_at 256 next i))

module _ (s : List ℕ) (start n : ℕ) (inside : start + n ≤ length s) {window : List ℕ} (clear : window ≡ empty) where
  abbrev p : List ℕ
  p = part s start n

  step-freed : (k : ℕ) (m : List ℕ) (ms : List (List ℕ)) (waiting : ℕ → Option (List ℕ)) → ((j : ℕ) → waiting j ≡ copy_of (packet k (m ∷ ms)) j)
      → (j : ℕ) → freed k waiting j ≡ copy_of (packet (k + 1) ms) j
  step-freed k m ms waiting h j =
      by_cases (ℕ_discrete j k)
      (λ e. ap (λ (b : Bool). cond b none (waiting j)) (eq-eqb j k e) ∙ sym (copy_none (packet (k + 1) ms) j (λ c. omega (arith, c.low, e))))
      (λ ne. ap (λ (b : Bool). cond b none (waiting j)) (ne_eqb j k ne) ∙ h j ∙ copy_rest k m ms j ne)

  ahead_all : (many at k : ℕ) → walk_from many at p ≡ None → (waiting : ℕ → Option (List ℕ)) → ((j : ℕ) → waiting j ≡ copy_of (packet k (map (bytes_at p) (frames_from many at p))) j)
      → Ahead s many (start + at) k window waiting
  unfolding frames_from
  ahead_all zero at k walk waiting h = clear ∙ sym (nothing waiting k (λ j. h j ∙ copy_none (packet k []) j (λ c. omega (arith, c.low, c.high))))
  ahead_all (suc many) at k walk waiting h =
      let g : Goes p at (suc many) = goes p at (suc many) walk (omega arith) in
      let long : length p ≡ n = part_long s start n in
      let one : suc many - 1 ≡ many = omega arith in
      let size : size_at p at ≡ length_at s (start + at) = ap num (part-part s start n at 2 (omega (arith, g.framed.within, g.least, long))) in
      let m : part p at (size_at p at) ≡ part s (start + at) (length_at s (start + at)) =
      part-part s start n at (size_at p at) (omega (arith, g.framed.within, long)) ∙ ap (part s (start + at)) size in
      let on : start + (at + size_at p at) ≡ start + at + length_at s (start + at) = omega (arith, size) in
      let ms : List (List ℕ) = map (bytes_at p) (frames_from many (at + size_at p at) p) in (
        h k ∙ copy_head k (part p at (size_at p at)) ms ∙ ap some m,
        (
          omega (arith, on, g.framed.within, long, inside),
          subst (λ (f : ℕ). Ahead s many f (k + 1) window (freed k waiting)) on
              (ahead_all many (at + size_at p at) (k + 1) (subst (λ (c : ℕ). walk_from c (at + size_at p at) p ≡ None) one g.rest) (freed k waiting) (step-freed k (part p at (size_at p at)) ms waiting h)),
        ),
      )

-- a packet that goes straight on
module _ {Table : Type 0} (x : State (List ℕ) Table) (s : List ℕ) (start n : ℕ) (inside : start + n ≤ length s) (bytes : Bytes (part s start n)) {window : List ℕ}
    (free : (k : ℕ) → x.waiting k ≡ none) (same : window ≡ window_for x.waiting x.next) where
  clear : window ≡ empty
  clear = same ∙ nothing x.waiting x.next free

  kept_copies : (q : Packet (List ℕ)) → q.first ≡ x.next → (k : ℕ) → kept_at x q k ≡ copy_of q k
  kept_copies q at_next k =
      by_cases (dec_lt k x.next)
      (λ l. kept_old x q k l ∙ free k ∙ sym (copy_none q k (λ c. omega (arith, c.low, at_next))))
      (λ l. kept_new x q k (omega arith) ∙ ap (λ (o : Option (List ℕ)). first_there o (copy_of q k)) (free k))

  module _ (q : Packet (List ℕ)) (at_next : q.first ≡ x.next) (is : packet_in (part s start n) ≡ q) (passed : (decided (take_tests x (part s start n))).0 ≡ 0) where
    by_flag : (b : Bool) → header.heartbeat (header_in (part s start n)).flag ≡ b → Ahead s (length q.messages) (start + min n 12) x.next window (kept_at x q)
    unfolding packet_in
    by_flag true e =
        let r : heartbeat (header_in (part s start n)).seq ≡ q = ap (λ (b : Bool). cond b (heartbeat (header_in (part s start n)).seq) (packet (header_in (part s start n)).seq (map (bytes_at (part s start n)) (frames_in (part s start n))))) (sym e) ∙ is in
        let none_left : 0 ≡ length q.messages = ap (λ (r : Packet (List ℕ)). length r.messages) r in
        subst (λ (c : ℕ). Ahead s c (start + min n 12) x.next window (kept_at x q)) none_left
        (clear ∙ sym (nothing (kept_at x q) x.next (λ k. kept_copies q at_next k ∙ copy_none q k (λ c. omega (arith, c.low, c.high, none_left)))))
    by_flag false e =
        let w : Walks (part s start n) = walks (part s start n) (first_part x (part s start n) passed) e in
        let messages : ℕ = (header_in (part s start n)).messages in
        let ms : List (List ℕ) = map (bytes_at (part s start n)) (frames_from (header_in (part s start n)).messages 12 (part s start n)) in
        let r : packet (header_in (part s start n)).seq ms ≡ q = ap (λ (b : Bool). cond b (heartbeat (header_in (part s start n)).seq) (packet (header_in (part s start n)).seq (map (bytes_at (part s start n)) (frames_in (part s start n))))) (sym e) ∙ is in
        let seq : (header_in (part s start n)).seq ≡ x.next = ap (λ (r : Packet (List ℕ)). r.first) r ∙ at_next in
        let many : (header_in (part s start n)).messages ≡ length q.messages =
        sym (length_frames (header_in (part s start n)).messages 12 (part s start n)) ∙ sym (length-map (frames_from (header_in (part s start n)).messages 12 (part s start n)) (bytes_at (part s start n))) ∙ ap (λ (r : Packet (List ℕ)). length r.messages) r in
        let from : start + 12 ≡ start + min n 12 = omega (arith, w.long, part_long s start n) in
        subst (λ (c : ℕ). Ahead s c (start + min n 12) x.next window (kept_at x q)) many
        (subst (λ (f : ℕ). Ahead s (header_in (part s start n)).messages f x.next window (kept_at x q)) from
        (ahead_all s start n inside clear (header_in (part s start n)).messages 12 x.next w.walk (kept_at x q)
        (λ j. kept_copies q at_next j ∙ ap (λ (r : Packet (List ℕ)). copy_of r j) (sym r) ∙ ap (λ (k : ℕ). copy_of (packet k ms) j) seq)))

  pub ahead_of : straight_in x (part s start n) ≡ true → Ahead s (count_of (judge x (part s start n))) (start + min n 12) x.next window (kept_by x (part s start n)).waiting
  unfolding straight_in kept_if keep
  ahead_of e = go (judge x (part s start n)) refl (and_right (eqb x.end x.next) (starts_at x.next (judge x (part s start n))) e)
    where
      go : (o : Option (Packet (List ℕ))) → judge x (part s start n) ≡ o → starts_at x.next o ≡ true → Ahead s (count_of o) (start + min n 12) x.next window (kept_if x o).waiting
      go none h starts = absurd (omega (arith, ap {B = ℕ} (λ (b : Bool). cond b 1 0) starts))
      go (some q) h starts = let j = judged x (part s start n) q h in by_flag q (eqb-true q.first x.next starts) j.1 j.0 (header.heartbeat (header_in (part s start n)).flag) refl

-- where a packet goes straight on, nothing is known beyond next
pub level_of : {Table : Type 0} (x : State (List ℕ) Table) (p : List ℕ) → straight_in x p ≡ true → x.end ≡ x.next
unfolding straight_in
level_of x p e = eqb-true x.end x.next (and_left (eqb x.end x.next) (starts_at x.next (judge x p)) e)

-- and it starts there
pub starts_of : {Table : Type 0} (x : State (List ℕ) Table) (p : List ℕ) {q : Packet (List ℕ)} → straight_in x p ≡ true → judge x p ≡ some q → q.first ≡ x.next
unfolding straight_in
starts_of x p {q} e is =
    eqb-true q.first x.next
    (ap (starts_at x.next) (sym is) ∙ and_right (eqb x.end x.next) (starts_at x.next (judge x p)) e)
