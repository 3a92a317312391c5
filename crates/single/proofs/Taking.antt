-- A packet walked: by what decides its refusal, and one message after the other.
-- Assumes nothing.
use mathlib.Core.Path.{◌≡◌, refl, ap, ◌∙◌, sym, subst}
use mathlib.Core.Bool.{Bool, true, false}
use mathlib.Core.List.{List, [], ◌∷◌}
use mathlib.Core.Logic.{inl, inr}
use Prim.Native.Nat.{ℕ, zero, suc, ◌+◌, ◌-◌, ◌*◌, ◌≤◌, ◌<◌}
use native.Mathlib.Omega.{arith}
use borrow.Author.Tests.{eq-eqb, ne_eqb, lt-ltb, le-ltb}
use lib.ListN.{length, set}
use Rattle.std.proofs.Common.{Ok, Err, Some, None}
use Rattle.refusals.specs.Refusals.{number_of}
use Rattle.packet.specs.Header.{Judged, header_in, told}
use Rattle.packet.specs.Walk.{broken_at, frames_from, size_at, walk_from}
use Rattle.packet.specs.declared.header.Rejection.{Rejection}
use Rattle.packet.proofs.Walking.{Lies, lies}
use Rattle.packet_reader.specs.Reading.{judged_by, messages_of, refusal_of}
use Rattle.packet.proofs.Headers.{no_number}
use Rattle.packet_reader.proofs.Refusals.{accepted as passed, either, judged-number}
use Rattle.single.specs.Over.{over, over_from}
use Rattle.single.specs.Walks.{flat, places_after, walk_numbers, walk_refusal, Walkable}

-- ---- the messages of a packet

frames_many : (left at : ℕ) (s : List ℕ) → length (frames_from left at s) ≡ left
unfolding frames_from
frames_many zero at s = refl
frames_many (suc left) at s = ap suc (frames_many left (at + size_at s at) s)

module _ (s : List ℕ) where
  pub messages_none : (refusal_of s ≡ 0 → ⊥) → messages_of s ≡ []
  unfolding messages_of
  messages_none h = simp (ne_eqb (refusal_of s) 0 h)

  pub messages_are : refusal_of s ≡ 0 → messages_of s ≡ frames_from (header_in s).messages 12 s
  unfolding messages_of
  messages_are h = simp (eq-eqb (refusal_of s) 0 h)

  pub messages_many : refusal_of s ≡ 0 → length (messages_of s) ≡ (header_in s).messages
  messages_many h = ap length (messages_are h) ∙ frames_many (header_in s).messages 12 s

-- what a walk answers, by the judgement
module _ (s places old : List ℕ) where
  told_numbers : {offset n : ℕ} → offset ≡ (judged_by s).offset → n ≡ length (messages_of s) → over (offset ∷ n ∷ []) old ≡ over (walk_numbers s) old
  told_numbers {offset} {n} f e = ap (λ (k : ℕ). over (offset ∷ k ∷ []) old) e ∙ ap (λ (k : ℕ). over (k ∷ length (messages_of s) ∷ []) old) f

  pub refused : (rejection : Rejection) → told (Err rejection) ≡ judged_by s
      → (number_of rejection.refusal ≡ walk_refusal s (length places)) × ((places ≡ places_after s places) × (over (rejection.offset ∷ 0 ∷ []) old ≡ over (walk_numbers s) old))
  unfolding walk_refusal places_after
  refused rejection said =
      let number : number_of rejection.refusal ≡ refusal_of s = ap (λ (x : Judged). x.test) said ∙ judged-number s in
      let some : refusal_of s ≡ 0 → ⊥ = λ e. no_number rejection (number ∙ e) in
      (number ∙ sym (simp (ne_eqb (refusal_of s) 0 some)), (sym (simp (ne_eqb (refusal_of s) 0 some)), told_numbers (ap (λ (x : Judged). x.offset) said) (sym (ap length (messages_none s some)))))

  module _ (said : told (Ok tt) ≡ judged_by s) where
    accepted : refusal_of s ≡ 0
    accepted = sym (judged-number s) ∙ sym (ap (λ (x : Judged). x.test) said)

    pub header_there : 12 ≤ length s
    header_there = (passed s accepted).least

    module _ {messages : ℕ} (many : messages ≡ (header_in s).messages) where
      count : messages ≡ length (messages_of s)
      count = many ∙ sym (messages_many s accepted)

      numbers_told : over (0 ∷ messages ∷ []) old ≡ over (walk_numbers s) old
      numbers_told = told_numbers (ap (λ (x : Judged). x.offset) said) count

      pub walkable : Walkable messages 12 s
      walkable = subst (λ (n : ℕ). Walkable n 12 s) (sym many) (either s accepted)

      pub too_short : length places < 2 * messages → (11 ≡ walk_refusal s (length places)) × ((places ≡ places_after s places) × (over (0 ∷ messages ∷ []) old ≡ over (walk_numbers s) old))
      unfolding walk_refusal places_after
      too_short h =
          let few = lt-ltb (length places) (2 * length (messages_of s)) (omega (arith, count)) in
          (sym (simp (eq-eqb (refusal_of s) 0 accepted, few)), (sym (simp (eq-eqb (refusal_of s) 0 accepted, few)), numbers_told))

      pub walked : 2 * messages ≤ length places → {after : List ℕ} → after ≡ over (flat (frames_from messages 12 s)) places
          → (0 ≡ walk_refusal s (length places)) × ((after ≡ places_after s places) × (over (0 ∷ messages ∷ []) old ≡ over (walk_numbers s) old))
      unfolding walk_refusal places_after
      walked h put =
          let enough = le-ltb (length places) (2 * length (messages_of s)) (omega (arith, count)) in
          let frames : frames_from messages 12 s ≡ messages_of s = ap (λ (n : ℕ). frames_from n 12 s) many ∙ sym (messages_are s accepted) in (
            sym (simp (eq-eqb (refusal_of s) 0 accepted, enough)),
            (put ∙ ap (λ (ms : List (ℕ × ℕ)). over (flat ms) places) frames ∙ sym (simp (eq-eqb (refusal_of s) 0 accepted, enough)), numbers_told),
          )

-- ---- one message after the other

frames_end : (at : ℕ) (s : List ℕ) → frames_from 0 at s ≡ []
unfolding frames_from
frames_end at s = refl

frames_one : (left at : ℕ) (s : List ℕ) → frames_from (suc left) at s ≡ (at, size_at s at) ∷ frames_from left (at + size_at s at) s
unfolding frames_from
frames_one left at s = refl

-- a whole walk of one more message
record Goes (s : List ℕ) (left at : ℕ) : Type 0 where
  pub lies : Lies s at (size_at s at)
  pub rest : walk_from left (at + size_at s at) s ≡ None

goes : (s : List ℕ) (left at : ℕ) → Walkable (suc left) at s → Goes s left at
unfolding walk_from
goes s left at (inl none) = absurd (omega (arith, none))
goes s left at (inr whole) = go (broken_at s at) refl
  where
    go : (b : Bool) → broken_at s at ≡ b → Goes s left at
    go true e =
        let z : Some at ≡ None = simp e at whole in
        let y : ◌≡◌ {A = ℕ} 0 1 = cc in
        absurd (omega arith)
    go false e = record { lies = lies s at e; rest = simp e at whole }

-- where the loop is: behind the i-th message, the messages that are left go over the list from the place 2 * i on
pub record Taking (s : List ℕ) (messages : ℕ) (old places : List ℕ) (at i : ℕ) : Type 0 where
  pub walk : Walkable (messages - i) at s
  pub rest : over_from (2 * i) (flat (frames_from (messages - i) at s)) places ≡ over (flat (frames_from messages 12 s)) old

pub none : (s : List ℕ) (messages : ℕ) (old : List ℕ) → Walkable messages 12 s → Taking s messages old old 12 0
none s messages old walk =
    let e : messages ≡ messages - 0 = omega arith in
    record { walk = subst (λ (n : ℕ). Walkable n 12 s) e walk; rest = ap (λ (n : ℕ). over_from 0 (flat (frames_from n 12 s)) old) (sym e) }

module _ (s : List ℕ) (messages : ℕ) (old places : List ℕ) (at i : ℕ) (g : Taking s messages old places at i) where
  module _ (some : i < messages) where
    abbrev next : ℕ
    next = messages - (i + 1)

    one : messages - i ≡ suc next
    one = omega arith

    walks : Goes s next at
    walks = goes s next at (subst (λ (n : ℕ). Walkable n at s) one g.walk)

    pub here : Lies s at (size_at s at)
    here = walks.lies

    pub more : {size : ℕ} → size ≡ size_at s at → Taking s messages old (set (set places (2 * i) at) (2 * i + 1) size) (at + size) (i + 1)
    more {size} told =
        let up : 2 * i + 1 ≡ suc (2 * i) = omega arith in
        let two : 2 * (i + 1) ≡ suc (suc (2 * i)) = omega arith in
        let left = frames_from next (at + size_at s at) s in
        record {
          walk = inr (subst (λ (n : ℕ). walk_from next (at + n) s ≡ None) (sym told) walks.rest);
          rest =
              ap (λ (n : ℕ). over_from (2 * (i + 1)) (flat (frames_from next (at + n) s)) (set (set places (2 * i) at) (2 * i + 1) n)) told
              ∙ ap (λ (j : ℕ). over_from (2 * (i + 1)) (flat left) (set (set places (2 * i) at) j (size_at s at))) up
              ∙ ap (λ (j : ℕ). over_from j (flat left) (set (set places (2 * i) at) (suc (2 * i)) (size_at s at))) two
              ∙ sym (ap (λ (ms : List (ℕ × ℕ)). over_from (2 * i) (flat ms) places) (ap (λ (n : ℕ). frames_from n at s) one ∙ frames_one next at s))
              ∙ g.rest;
        }

  pub all : messages ≤ i → places ≡ over (flat (frames_from messages 12 s)) old
  all done =
      let e : messages - i ≡ 0 = omega arith in
      sym (ap (λ (ms : List (ℕ × ℕ)). over_from (2 * i) (flat ms) places) (ap (λ (n : ℕ). frames_from n at s) e ∙ frames_end at s)) ∙ g.rest
