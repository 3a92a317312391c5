-- A packet that does not carry next, while nothing waits there: taking it is keeping it.
-- Assumes nothing.
use mathlib.Core.Path.{◌≡◌, refl, ap, ap₂, ◌∙◌, sym, subst}
use mathlib.Core.Bool.{Bool, true, false, cond, not, ◌&&◌}
use mathlib.Core.List.{List, map}
use mathlib.Core.Option.{Option, none, some}
use Prim.Native.Nat.{ℕ, ◌+◌, ◌%◌, ◌≤◌, ◌<◌}
use native.Mathlib.Omega.{arith}
use borrow.Author.Tests.{le-leb, lt-leb, ltb-false}
use lib.Dec.{eqb, leb, ltb}
use lib.ListN.{length, length-map}
use Rattle.std.specs.Prelude.{Result, Ok}
use Rattle.refusals.specs.declared.Refusal.{Refusal}
use Rattle.wire.specs.Number.{part}
use Rattle.merge.specs.History.{Carries}
use Rattle.merge.specs.State.{Packet, first_there, heartbeat, is_there, keep, keep_one, kept_if, packet, take_if, take_one}
use Rattle.merge.proofs.Clauses.{kept_new}
use Rattle.merge.proofs.Copies.{copy_none}
use Rattle.merge.proofs.Lowest.{stuck}
use Rattle.packet.specs.Header as header
use Rattle.packet.specs.Header.{header_in}
use Rattle.window.specs.Window.{size_at, start_of, waits_at}
use Rattle.window_taking.specs.Keeping.{kept_by, waiting_of}
use Rattle.window_taking.specs.Taking.{bytes_at, frames_in, judge, packet_in}
use Rattle.window_taking.proofs.Accepted.{judged, length_frames}
use Rattle.window_taking.proofs.Passing.{first_part, walks}
use Rattle.window_taking.proofs.Windows.{waits_place}
use Rattle.session.specs.Asking.{line_in}
use Rattle.session.specs.Meaning.{Held, Meaning, Ruled, feed, next_in, overnight, rep, view}
use Rattle.session.proofs.States.{meaning, stands}
use Rattle.session_keeping.specs.Keeping.{kept_of}
use Rattle.session_keeping.specs.Passing.{applies_at, carries_at, pass_on, passed_by, passed_of}
use Rattle.session_keeping.specs.declared.passing.Passed.TheVariants as passed

-- ---- the header's numbers

module _ (next : ℕ) (s : List ℕ) where
  abbrev seq : ℕ
  seq = (header_in s).seq

  abbrev count : ℕ
  count = (header_in s).messages

  pub short_not : length s < 12 → false ≡ carries_at next s
  unfolding carries_at
  short_not h = sym (ap (λ (b : Bool). b && (not (header.heartbeat (header_in s).flag) && (leb seq next && ltb next (seq + count)))) (lt-leb 12 (length s) h))

  module _ (long : 12 ≤ length s) where
    by_length : carries_at next s ≡ (not (header.heartbeat (header_in s).flag) && (leb seq next && ltb next (seq + count)))
    unfolding carries_at
    by_length = ap (λ (b : Bool). b && (not (header.heartbeat (header_in s).flag) && (leb seq next && ltb next (seq + count)))) (le-leb 12 (length s) long)

    pub beat_not : header.heartbeat (header_in s).flag ≡ true → false ≡ carries_at next s
    beat_not e = sym (by_length ∙ ap (λ (b : Bool). not b && (leb seq next && ltb next (seq + count))) e)

    module _ (no-beat : header.heartbeat (header_in s).flag ≡ false) where
      by_flag : carries_at next s ≡ (leb seq next && ltb next (seq + count))
      by_flag = by_length ∙ ap (λ (b : Bool). not b && (leb seq next && ltb next (seq + count))) no-beat

      pub early_not : next < seq → false ≡ carries_at next s
      early_not h = sym (by_flag ∙ ap (λ (b : Bool). b && ltb next (seq + count)) (lt-leb seq next h))

      pub by_end : seq ≤ next → ltb next (seq + count) ≡ carries_at next s
      by_end h = sym (by_flag ∙ ap (λ (b : Bool). b && ltb next (seq + count)) (le-leb seq next h))

-- ---- one that does not carry next

module _ (x : Meaning) (s : List ℕ) (free : carries_at x.next s ≡ false) where
  not-packet : (p : Packet (List ℕ)) → judge x s ≡ some p → Carries p x.next → ⊥
  unfolding packet_in
  not-packet p h c = go (header.heartbeat (header_in s).flag) refl (subst (λ (q : Packet (List ℕ)). Carries q x.next) (sym (judged x s p h).1) c)
    where
      go : (b : Bool) → header.heartbeat (header_in s).flag ≡ b → Carries (packet_in s) x.next → ⊥
      go true e d =
          let q : Carries {Msg = List ℕ} (heartbeat (header_in s).seq) x.next = subst (λ (b : Bool). Carries (cond b (heartbeat (header_in s).seq) (packet (header_in s).seq (map (bytes_at s) (frames_in s)))) x.next) e d in
          omega (arith, q.low, q.high)
      go false e d =
          let q : Carries (packet (header_in s).seq (map (bytes_at s) (frames_in s))) x.next = subst (λ (b : Bool). Carries (cond b (heartbeat (header_in s).seq) (packet (header_in s).seq (map (bytes_at s) (frames_in s)))) x.next) e d in
          let long : 12 ≤ length s = (walks s (first_part x s (judged x s p h).0) e).long in
          let n : length (map (bytes_at s) (frames_in s)) ≡ (header_in s).messages = length-map (frames_in s) (bytes_at s) ∙ length_frames (header_in s).messages 12 s in
          let end : (header_in s).seq + (header_in s).messages ≤ x.next = ltb-false x.next ((header_in s).seq + (header_in s).messages) (by_end x.next s long e q.low ∙ free) in
          omega (arith, q.high, n, end)

  front_kept : x.waiting x.next ≡ none → (kept_by x s).waiting (kept_by x s).next ≡ none
  unfolding kept_if keep
  front_kept front = go (judge x s) refl
    where
      go : (o : Option (Packet (List ℕ))) → judge x s ≡ o → (kept_if x o).waiting (kept_if x o).next ≡ none
      go none e = front
      go (some p) e =
          kept_new x p x.next (omega arith)
          ∙ ap₂ first_there front (copy_none p x.next (not-packet p e))

  -- taking it is keeping it
  pub take-keeps : x.waiting x.next ≡ none → take_one overnight x s ≡ keep_one overnight x s
  unfolding take_one take_if keep_one kept_if
  take-keeps front = go (judge x s) refl
    where
      go : (o : Option (Packet (List ℕ))) → judge x s ≡ o → take_if overnight x (judge x s) ≡ kept_if x (judge x s)
      go none e = ap (take_if overnight x) e ∙ sym (ap (kept_if x) e)
      go (some p) e =
          let free-there : (keep x p).waiting (keep x p).next ≡ none = subst (λ (o : Option (Packet (List ℕ))). (kept_if x o).waiting (kept_if x o).next ≡ none) e (front_kept front) in
          ap (take_if overnight x) e ∙ stuck feed 256 free-there ∙ sym (ap (kept_if x) e)

-- ---- whether it may apply a message

carried-not : (b there : Bool) → cond b true there ≡ false → (b ≡ false) × (there ≡ false)
carried-not true there e = absurd (omega (arith, ap {B = ℕ} (λ (c : Bool). cond c 1 0) e))
carried-not false there e = (refl, e)

not_there : (o : Option (List ℕ)) → is_there o ≡ false → o ≡ none
not_there none e = refl
not_there (some m) e = absurd (omega (arith, ap {B = ℕ} (λ (c : Bool). cond c 1 0) e))

module _ (x : Meaning) (s : List ℕ) (none-applied : applies_at x.next x.waiting s ≡ false) where
  pub passes_over : take_one overnight x s ≡ keep_one overnight x s
  passes_over =
      let both = carried-not (carries_at x.next s) (is_there (x.waiting x.next)) none-applied in
      take-keeps x s both.0 (not_there (x.waiting x.next) both.1)

there_by : (b : Bool) (m : List ℕ) → not b ≡ is_there (cond b none (some m))
there_by true m = refl
there_by false m = refl

-- by the size at the place of next
pub there_at : (w : List ℕ) (next : ℕ) → not (eqb (size_at w (next % 256)) 0) ≡ is_there (waiting_of w next next)
unfolding waits_at
there_at w next =
    there_by (eqb (size_at w (next % 256)) 0) (part w (start_of (next % 256)) (size_at w (next % 256)))
    ∙ ap is_there (sym (waits_place w next next (omega arith) (omega arith)))

-- ---- at the call

module _ {h : Held} (rule : Ruled h) (s : List ℕ) where
  -- nothing is done
  pub left_alone : applies_at (view h).next (view h).waiting s ≡ true → h ≡ rep (pass_on (view h) s)
  unfolding pass_on
  left_alone e =
      (stands rule).same
      ∙ ap rep (sym (meaning (stands rule)) ∙ sym (ap (λ (b : Bool). cond b (view h) (take_one overnight (view h) s)) e))

  pub kept_over : applies_at (view h).next (view h).waiting s ≡ false → {t : Held} → t ≡ rep (keep_one overnight (view h) s) → t ≡ rep (pass_on (view h) s)
  unfolding pass_on
  kept_over e is = is ∙ ap rep (sym (passes_over (view h) s e) ∙ sym (ap (λ (b : Bool). cond b (view h) (take_one overnight (view h) s)) e))

-- the answer
pub told_applies : (room window s : List ℕ) → applies_at (next_in room) (waiting_of window (next_in room)) s ≡ true → Ok passed.Applies ≡ passed_of (line_in room window) s
unfolding passed_of
told_applies room window s e = sym (ap (λ (b : Bool). cond b (Ok passed.Applies) (passed_by (kept_of (line_in room window) s))) e)

pub told_passed : (room window s : List ℕ) → applies_at (next_in room) (waiting_of window (next_in room)) s ≡ false → {k : Result ℕ Refusal} → k ≡ kept_of (line_in room window) s → passed_by k ≡ passed_of (line_in room window) s
unfolding passed_of
told_passed room window s e is = ap passed_by is ∙ sym (ap (λ (b : Bool). cond b (Ok passed.Applies) (passed_by (kept_of (line_in room window) s))) e)
