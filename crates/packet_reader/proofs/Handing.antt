-- A reader hands out the messages of its packet, in order, and then none for ever.
-- Assumes nothing.
use mathlib.Core.Path.{◌≡◌, refl, ap, ◌∙◌, sym}
use mathlib.Core.Bool.{Bool, true, false}
use mathlib.Core.List.{List, [], ◌∷◌}
use mathlib.Core.Logic.{⊎_elim}
use Prim.Native.Nat.{ℕ, zero, suc, ◌+◌, ◌-◌, ◌≤◌, ◌<◌}
use native.Mathlib.Omega.{arith}
use borrow.Author.Tests.{eq-eqb, eqb-true, eqb-false}
use lib.Dec.{eqb}
use lib.ListN.{length, get_or}
use denote.Ref.{Bor}
use Rattle.packet.specs.Header.{header_in, heartbeat}
use Rattle.packet.specs.Walk.{broken_at, frames_from, step_at, walk_from}
use Rattle.packet.specs.Walk as walk
use Rattle.std.proofs.Common.{Option, Some, None}
use Rattle.std.specs.Iterator.{MakesProgress, at_most}
use Rattle.refusals.specs.Refusals.{refusal_by, refusal_or_none}
use Rattle.refusals.specs.declared.Refusal.{Refusal}
use Rattle.packet.proofs.Walking.{Lies, lies}
use Rattle.packet_reader.specs.Reading.{message_of, messages_of, no_message, refusal_of}
use Rattle.packet_reader.specs.Cursors.{Lent, lent, lent_if, after_of, behind_of, frame_at, part_if, size_at, start_by, start_of}
use Rattle.packet_reader.specs.Steps.{next_part, opened, reader_behind, step_of, stepped}
use Rattle.packet_reader.specs.declared.cursor.Cursor.{Cursor}
use Rattle.packet_reader.specs.declared.read.Reader.{Reader}
use Rattle.packet_reader.proofs.Frames.{frame_is, frame_none, moves, size_is, size_none, size_of, stays, there}
use Rattle.packet_reader.proofs.Refusals.{either, heartbeat_empty, numbered}

module _ (s : List ℕ) where
  -- where none is left, the cursor stays and none is left
  none_stays : (k : ℕ) (c : Cursor) → size_at s c ≡ 0 → after_of k s c ≡ c
  unfolding after_of
  none_stays zero c h = refl
  none_stays (suc k) c h = ap (after_of k s) (sym (stays s c (size_of s c ∙ h))) ∙ none_stays k c h

  pub none_for_ever : (k : ℕ) (c : Cursor) → size_at s c ≡ 0 → frame_at s (after_of k s c) ≡ no_message
  none_for_ever k c h = ap (frame_at s) (none_stays k c h) ∙ frame_none s c h

  -- a whole walk of one more message
  record Goes (left at : ℕ) : Type 0 where
    pub good : broken_at s at ≡ false
    pub rest : walk_from left (at + walk.size_at s at) s ≡ None

  goes : (left at : ℕ) → walk_from (suc left) at s ≡ None → Goes left at
  unfolding walk_from
  goes left at h = go (broken_at s at) refl
    where
      go : (b : Bool) → broken_at s at ≡ b → Goes left at
      go true e =
          let z : Some at ≡ None = simp e at h in
          let y : ◌≡◌ {A = ℕ} 0 1 = cc in
          absurd (omega arith)
      go false e = record { good = e; rest = simp e at h }

  -- the cursor at such a message, and behind it
  module _ (left at : ℕ) (refusal : Option Refusal) (good : broken_at s at ≡ false) where
    abbrev here : Cursor
    here = record { at = at; left = suc left; refusal = refusal }

    size : size_at s here ≡ walk.size_at s at
    unfolding step_at
    size = sym (size_is s here {size = walk.size_at s at} (λ e. absurd (omega arith)) (sym (simp good)))

    some : size_at s here ≡ 0 → ⊥
    some h =
        let l : Lies s at (walk.size_at s at) = lies s at good in
        let e : walk.size_at s at ≡ 0 = sym size ∙ h in
        omega arith

    first : frame_at s here ≡ (at, walk.size_at s at)
    first = frame_is s here some ∙ ap (λ (n : ℕ). (at, n)) size

    next : behind_of s here ≡ record { at = at + walk.size_at s at; left = left; refusal = refusal }
    next =
        let e : suc left - 1 ≡ left = omega arith in
        sym (moves s here (λ z. some (sym (size_of s here) ∙ z)))
        ∙ ap (λ (f : ℕ × ℕ). record { at = f.0 + f.1; left = suc left - 1; refusal = refusal }) first
        ∙ ap (λ (n : ℕ). record { at = at + walk.size_at s at; left = n; refusal = refusal }) e

  -- from a place on from which the walk is whole, the k-th step gives the k-th frame
  hands_from : (left at : ℕ) (refusal : Option Refusal) (k : ℕ) → walk_from left at s ≡ None → frame_at s (after_of k s (record { at = at; left = left; refusal = refusal })) ≡ get_or (frames_from left at s) k no_message
  unfolding frames_from after_of
  hands_from zero at refusal k h = none_for_ever k (record { at = at; left = zero; refusal = refusal }) (sym (size_none s (record { at = at; left = zero; refusal = refusal }) refl))
  hands_from (suc left) at refusal zero h = first left at refusal (goes left at h).good
  hands_from (suc left) at refusal (suc k) h =
      let g = goes left at h in
      ap (λ (c : Cursor). frame_at s (after_of k s c)) (next left at refusal g.good) ∙ hands_from left (at + walk.size_at s at) refusal k g.rest

  -- each of those has its header
  sized_from : (left at k : ℕ) → walk_from left at s ≡ None → k < length (frames_from left at s) → 3 ≤ (get_or (frames_from left at s) k no_message).1
  unfolding frames_from
  sized_from zero at k h i = absurd (omega arith)
  sized_from (suc left) at zero h i = (lies s at (goes left at h).good).least
  sized_from (suc left) at (suc k) h i = sized_from left (at + walk.size_at s at) k (goes left at h).rest (omega arith)

  -- the messages of a packet, by whether it is refused
  pub listed : (k : ℕ) → frame_at s (after_of k s (start_of s)) ≡ message_of s k
  unfolding message_of messages_of start_by frames_from
  listed k = go (eqb (refusal_of s) 0) refl
    where
      none : (c : Cursor) → c.left ≡ 0 → frame_at s (after_of k s c) ≡ no_message
      none c e = none_for_ever k c (sym (size_none s c e))

      go : (b : Bool) → eqb (refusal_of s) 0 ≡ b → frame_at s (after_of k s (start_of s)) ≡ message_of s k
      go true e =
          simp e
          (⊎_elim
          (λ z. none (record { at = 12; left = (header_in s).messages; refusal = None }) z ∙ sym (ap (λ (n : ℕ). get_or (frames_from n 12 s) k no_message) z))
          (λ w. hands_from (header_in s).messages 12 None k w)
          (either s (eqb-true _ _ e)))
      go false e = simp e (none (record { at = 0; left = 0; refusal = Some (refusal_by (refusal_of s)) }) refl)

  -- a message is never taken for none: it has 3 bytes at least
  pub sized : (k : ℕ) → k < length (messages_of s) → 3 ≤ (message_of s k).1
  unfolding message_of messages_of frames_from
  sized k i = go (eqb (refusal_of s) 0) refl
    where
      none : (n : ℕ) → n ≡ 0 → k < length (frames_from n 12 s) → 3 ≤ (get_or (frames_from n 12 s) k no_message).1
      none zero z j = absurd (omega arith)
      none (suc n) z j = absurd (omega arith)

      go : (b : Bool) → eqb (refusal_of s) 0 ≡ b → 3 ≤ (message_of s k).1
      go true e =
          let j : k < length (frames_from (header_in s).messages 12 s) = simp e at i in
          simp e
          (⊎_elim (λ z. none (header_in s).messages z j) (λ w. sized_from (header_in s).messages 12 k w j) (either s (eqb-true _ _ e)))
      go false e =
          let j : k < 0 = simp e at i in
          absurd (omega arith)

  pub past_all : (k : ℕ) → length (messages_of s) ≤ k → message_of s k ≡ no_message
  unfolding message_of
  past_all k h = past (messages_of s) k h
    where
      past : (l : List (ℕ × ℕ)) (k : ℕ) → length l ≤ k → get_or l k no_message ≡ no_message
      past [] k h = refl
      past (x ∷ l) zero h = absurd (omega arith)
      past (x ∷ l) (suc k) h = past l k (omega arith)

  -- an accepted heartbeat has no message
  pub beats-none : heartbeat (header_in s).flag ≡ true → messages_of s ≡ []
  unfolding messages_of frames_from
  beats-none beats = go (eqb (refusal_of s) 0) refl
    where
      go : (b : Bool) → eqb (refusal_of s) 0 ≡ b → messages_of s ≡ []
      go true e = simp e (ap (λ (n : ℕ). frames_from n 12 s) (heartbeat_empty s (eqb-true _ _ e) beats))
      go false e = simp e

  -- which of 1 to 7 refused the packet stays in the cursor
  refusal_behind : (c : Cursor) → (behind_of s c).refusal ≡ c.refusal
  unfolding behind_of
  refusal_behind c = go (eqb (frame_at s c).1 0) refl
    where
      go : (b : Bool) → eqb (frame_at s c).1 0 ≡ b → (behind_of s c).refusal ≡ c.refusal
      go true e = simp e
      go false e = simp e

  refusal_after : (k : ℕ) (c : Cursor) → (after_of k s c).refusal ≡ c.refusal
  unfolding after_of
  refusal_after zero c = refl
  refusal_after (suc k) c = refusal_after k (behind_of s c) ∙ refusal_behind c

  pub refusal_start : refusal_or_none (start_of s).refusal ≡ refusal_of s
  unfolding start_by
  refusal_start = go (eqb (refusal_of s) 0) refl
    where
      go : (b : Bool) → eqb (refusal_of s) 0 ≡ b → refusal_or_none (start_of s).refusal ≡ refusal_of s
      go true e = simp e (sym (eqb-true _ _ e))
      go false e = simp e (numbered s (eqb-false _ _ e))

-- the reader behind so many steps keeps the packet
module _ (p : Bor (List ℕ)) where
  pub stepped-is : (k : ℕ) (c : Cursor) → stepped k (record { packet = p; cursor = c }) ≡ record { packet = p; cursor = after_of k p.now c }
  unfolding stepped after_of
  stepped-is zero c = refl
  stepped-is (suc k) c = stepped-is k (behind_of p.now c)

  -- step by step a reader hands out the messages of its packet, in order, and then none, for ever
  pub hands_out : (k : ℕ) → next_part (stepped k (opened p)) ≡ part_if p (message_of p.now k)
  hands_out k = ap next_part (stepped-is k (start_of p.now)) ∙ ap (part_if p) (listed p.now k)

  pub none_left : (k : ℕ) → length (messages_of p.now) ≤ k → next_part (stepped k (opened p)) ≡ None
  none_left k h = hands_out k ∙ ap (part_if p) (past_all p.now k h)

  -- and says which of 1 to 7 refused it, at every step
  pub refusal_told : (k : ℕ) → refusal_or_none (stepped k (opened p)).cursor.refusal ≡ refusal_of p.now
  refusal_told k =
      ap (λ (r : Reader). refusal_or_none r.cursor.refusal) (stepped-is k (start_of p.now))
      ∙ ap refusal_or_none (refusal_after p.now k (start_of p.now))
      ∙ refusal_start p.now

-- of any reader: the end is final, since a reader with none left is the reader behind it
pub end_final : (r : Reader) → frame_at r.packet.now r.cursor ≡ no_message → reader_behind r ≡ r
end_final r h =
    let s : List ℕ = r.packet.now in
    ap (λ (c : Cursor). record { packet = r.packet; cursor = c }) (sym (stays s r.cursor (ap (λ (f : ℕ × ℕ). f.1) h)))

-- passing messages one by one
module _ (s : List ℕ) where
  pub after-all : (n : ℕ) (c : Cursor) → n ≤ 0 → after_of n s c ≡ c
  unfolding after_of
  after-all zero c h = refl
  after-all (suc n) c h = absurd (omega arith)

  pub after_one : (n next : ℕ) (c : Cursor) {d : Cursor} → n ≡ suc next → d ≡ behind_of s c → after_of n s c ≡ after_of next s d
  unfolding after_of
  after_one zero next c h told = absurd (omega arith)
  after_one (suc n) next c h told =
      let e : n ≡ next = omega arith in
      simp e (ap (after_of next s) (sym told))

  pub listed_at : (k : ℕ) {c : Cursor} → c ≡ after_of k s (start_of s) → frame_at s c ≡ message_of s k
  listed_at k told = ap (frame_at s) told ∙ listed s k

some_part : (p : Bor (List ℕ)) (f : ℕ × ℕ) {l : Lent} → Some l ≡ part_if p f → f.1 ≡ 0 → ⊥
some_part p f {l} told z =
    let no : ◌≡◌ {A = Option Lent} (Some l) None = simp (eq-eqb f.1 0 z) at told in
    let y : ◌≡◌ {A = ℕ} 0 1 = cc in
    omega arith

-- a reader that hands out a message has one less left, so it comes to an end
pub progress : (can : Reader → Type 0) (r behind : Reader) (message : Option (Bor (List ℕ))) → ((x : Reader) → can x) → (lent_if message, behind) ≡ step_of r → MakesProgress can (λ x. at_most x.cursor.left) r message behind
progress can r behind None may told = record { on = λ finite. tt; keeps = tt; rests = λ finite. tt }
progress can r behind (Some x) may told =
    let s : List ℕ = r.packet.now in
    let some : (frame_at s r.cursor).1 ≡ 0 → ⊥ = some_part r.packet (frame_at s r.cursor) {l = lent x} (ap (λ (y : Option Lent × Reader). y.0) told) in
    let one : 1 ≤ r.cursor.left = (there s r.cursor (λ e. some (size_of s r.cursor ∙ e))).some in
    let left : behind.cursor.left ≡ r.cursor.left - 1 = ap (λ (y : Option Lent × Reader). y.1.cursor.left) told ∙ sym (ap (λ (c : Cursor). c.left) (moves s r.cursor some)) in
    record { on = λ finite. (may behind, tt, omega (arith, one, left)); keeps = may behind; rests = λ finite. tt }
