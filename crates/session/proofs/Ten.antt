-- Test 10 at the call: taking answers 10 exactly if the packet passes 1 to 9 and a message of it whose number waits is not
-- equal to the waiting copy.
-- Assumes nothing.
use mathlib.Core.Path.{◌≡◌, ap, ◌∙◌, sym, subst}
use mathlib.Core.List.{List}
use Prim.Native.Nat.{ℕ, ◌≤◌}
use Rattle.std.specs.Prelude.{Result, Err}
use Rattle.refusals.specs.Refusals.{answered, refusal_by, refusal_in}
use Rattle.refusals.specs.declared.Refusal.{Refusal}
use Rattle.refusals.specs.declared.Refusal.TheVariants.{Differs}
use Rattle.packet.specs.Header.{decided}
use Rattle.window_taking.specs.Ten.{Differing, Ten, through_nine}
use Rattle.window_taking.proofs.Answered.{answered_number, test_most}
use Rattle.window_taking.proofs.Ten.{ten_law, ten_passes}
use Rattle.window_taking.proofs.Windows.{Within}
use Rattle.session.specs.Meaning.{Held, Ruled, Meaning, view}
use Rattle.session.specs.Bursts.{answer_of, applied_of, refusal_of}
use Rattle.session.proofs.States.{meaning, stands, within}

-- an answer that refuses by test 10 names it, and only that one
refused_by : (applied n : ℕ) → n ≤ 14 → answered n applied ≡ Err Differs → n ≡ 10
refused_by applied n most h = sym (answered_number n applied most) ∙ ap refusal_in h

module _ {s : Held} (rule : Ruled s) (packet : List ℕ) where
  pub ten_of : (decided (through_nine (view s) packet)).0 ≡ 0 → Ten (view s) packet
  ten_of passes = ten_law (view s) packet (subst (λ (x : Meaning). Within x.waiting x.next) (sym (meaning (stands rule))) (within (stands rule).good)) passes

  module _ {told : Result ℕ Refusal} (answer : told ≡ answer_of (view s) packet) where
    pub ten-answered : (decided (through_nine (view s) packet)).0 ≡ 0 → Differing (view s) packet → told ≡ Err Differs
    unfolding refusal_by
    ten-answered passes d = answer ∙ ap (λ (n : ℕ). answered n (applied_of (view s) packet)) ((ten_of passes).given d)

    pub ten_differs : told ≡ Err Differs → ((decided (through_nine (view s) packet)).0 ≡ 0) × Differing (view s) packet
    ten_differs h =
        let ten : refusal_of (view s) packet ≡ 10 = refused_by (applied_of (view s) packet) (refusal_of (view s) packet) (test_most (view s) packet) (sym answer ∙ h) in
        let passes : (decided (through_nine (view s) packet)).0 ≡ 0 = ten_passes (view s) packet ten in
        (passes, (ten_of passes).only ten)
