-- What a burst says of its packets: no more than were asked for, their bytes among those lent; and the next burst goes on behind
-- them.
-- Assumes nothing.
use mathlib.Core.Path.{◌≡◌, ap, ap₂, ◌∙◌, sym}
use mathlib.Core.Bool.{Bool, true, false, cond}
use mathlib.Core.List.{List}
use Prim.Native.Nat.{ℕ, ◌+◌, ◌*◌, ◌≤◌}
use native.Mathlib.Omega.{arith}
use borrow.Author.Tests.{le-ltb}
use lib.Dec.{ltb}
use lib.ListN.{length, drop}
use Rattle.std.specs.Prelude.{Result, Ok, Err}
use Rattle.refusals.specs.declared.Refusal.{Refusal}
use Rattle.refusals.specs.declared.Refusal.TheVariants.{NoRoom}
use Rattle.merge.specs.State.{take_all}
use Rattle.window_taking.specs.Turns.{end_from, packets_in}
use Rattle.window_taking.proofs.Following.{end_within, packets_most, packets_onward}
use Rattle.session.specs.Meaning.{Meaning, overnight}
use Rattle.session.specs.Bursts.{burst_of, bytes_of, count_of}
use Rattle.session.proofs.States.{take_more}

module _ (s : List ℕ) (most room : ℕ) where
  told : Result ℕ Refusal → ℕ
  told (Ok n) = n
  told (Err refusal) = 0

  pub burst_most : {n : ℕ} → Ok n ≡ count_of s most room → n ≤ most
  unfolding count_of told
  burst_most {n} e = omega (arith, ap told e, go (ltb room (4 * most)))
    where
      go : (b : Bool) → told (cond b (Err NoRoom) (Ok (length (packets_in most s)))) ≤ most
      go true = omega arith
      go false = packets_most false most 0 s

  pub burst_within : bytes_of s most room ≤ length s
  unfolding bytes_of
  burst_within = go (ltb room (4 * most))
    where
      go : (b : Bool) → cond b 0 (end_from false most 0 s) ≤ length s
      go true = omega arith
      go false = end_within false most 0 s (omega arith)

  module _ (fits : 4 * most ≤ room) where
    burst_taken : (x : Meaning) → burst_of x s most room ≡ take_all overnight x (packets_in most s)
    unfolding burst_of
    burst_taken x = ap (λ (b : Bool). cond b x (take_all overnight x (packets_in most s))) (le-ltb room (4 * most) fits)

    burst_end : bytes_of s most room ≡ end_from false most 0 s
    unfolding bytes_of
    burst_end = ap (λ (b : Bool). cond b 0 (end_from false most 0 s)) (le-ltb room (4 * most) fits)

-- Two bursts, the second of the bytes behind the first's, are one.
pub burst_onward : (x : Meaning) (s : List ℕ) (one two room room' : ℕ) → 4 * one ≤ room → 4 * two ≤ room' → burst_of (burst_of x s one room) (drop (bytes_of s one room) s) two room' ≡ burst_of x s (one + two) (room + room')
burst_onward x s one two room room' first second =
    burst_taken (drop (bytes_of s one room) s) two room' second (burst_of x s one room)
    ∙ ap₂ (λ (y : Meaning) (at : ℕ). take_all overnight y (packets_in two (drop at s))) (burst_taken s one room first x) (burst_end s one room first)
    ∙ sym (take_more (packets_in one s) (packets_in two (drop (end_from false one 0 s) s)) x)
    ∙ ap (take_all overnight x) (sym (packets_onward one two s))
    ∙ sym (burst_taken s (one + two) (room + room') (omega arith) x)
