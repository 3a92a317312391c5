-- Handed on, and told.
-- Assumes nothing.
use mathlib.Core.Path.{◌≡◌, ap₂, ◌∙◌, refl}
use mathlib.Core.Bool.{Bool, true, false, cond}
use mathlib.Core.List.{List, [], ◌∷◌}
use Prim.Native.Nat.{ℕ, ◌*◌}
use lib.Dec.{ltb}
use lib.ListN.{length}
use Rattle.std.specs.Prelude.{Result, Ok, Err}
use Rattle.refusals.specs.declared.Refusal.{Refusal}
use Rattle.refusals.specs.declared.Refusal.TheVariants.{NoRoom}
use Rattle.window_taking.specs.Turns.{end_from, packets_in}
use Rattle.session.specs.Bursts.{bytes_of, count_of}
use Rattle.exports.specs.Handed.{taken_told}
use Rattle.exports.specs.Kept.{count_numbers}
use Rattle.single.specs.Over.{over}
use Rattle.exports.proofs.keeping.jangsebit_keep_packets.Goals as goal

-- what is told is what is told of a burst that is taken
told_of : (s : List ℕ) (most n : ℕ) (old : List ℕ) → over (count_numbers (count_of s most n) (bytes_of s most n)) old ≡ taken_told 0 most s n old
unfolding count_of bytes_of taken_told
told_of s most n old = go (ltb n (4 * most))
  where
    go : (b : Bool) → over (count_numbers (cond b (Err NoRoom) (Ok (length (packets_in most s)))) (cond b 0 (end_from false most 0 s))) old ≡ cond b (over (11 ∷ 0 ∷ 0 ∷ []) old) (over (0 ∷ length (packets_in most s) ∷ end_from false most 0 s ∷ []) old)
    go true = refl
    go false = refl

pub returns : goal.returns
returns c =
    let kept = c.keep_burst-kept.ensures in
    let old = c.args.told.now in
    let s = c.args.packets.now in
    let n = length c.args.answers.now in
    let told = c.tell_all.ensures in
    record {
      answers = kept.answers;
      told = told ∙ ap₂ (λ (k : Result ℕ Refusal) (b : ℕ). over (count_numbers k b) old) kept.count kept.bytes ∙ told_of s c.args.count n old;
      held = kept.held;
      rule = kept.rule;
    }

pub keep_burst-kept-requires : goal.keep_burst-kept-requires
keep_burst-kept-requires c = c.requires
