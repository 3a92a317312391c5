-- Which test decides a reading: one law for each way out of `read`, and what an acceptance says, over plain values.
-- Assumes nothing.
use mathlib.Core.Path.{◌≡◌, ap, ◌∙◌, sym, subst}
use mathlib.Core.Bool.{true, false, not}
use mathlib.Core.List.{List, [], ◌∷◌}
use Prim.Native.Nat.{ℕ, ◌≤◌, ◌<◌}
use native.Mathlib.Omega.{arith}
use borrow.Author.Tests.{lt-ltb, le-ltb, ltb-false, eq-eqb, ne_eqb, eqb-true, not-false}
use lib.Dec.{eqb, ltb}
use lib.ListN.{length}
use Rattle.wire.proofs.Choice.{passed}
use Rattle.message.specs.Layouts.{size_in, type_in}
use Rattle.message.specs.Reading.{read_of}
use Rattle.message.specs.Row.{fields_of}
use Rattle.message.specs.Rules.{good_message}
use Rattle.message.specs.Table.{too_short}
use Rattle.refusals.specs.declared.Refusal.{Refusal}
use Rattle.refusals.specs.declared.Refusal.TheVariants.{BadMessage, RuleBroken}
use Rattle.std.proofs.Common.{Result, Ok, Err}
use Rattle.message.specs.declared.kinds.Message.{Message}

module _ (s : List ℕ) where
  pub few : length s < 3 → Err BadMessage ≡ read_of s
  unfolding read_of
  few h = simp (lt-ltb _ _ h)

  module _ (least : 3 ≤ length s) where
    pub many : 128 < length s → Err BadMessage ≡ read_of s
    unfolding read_of
    many h = simp (le-ltb _ _ least, lt-ltb _ _ h)

    module _ (most : length s ≤ 128) {size : ℕ} (told : size ≡ size_in s) where
      pub another : (size ≡ length s → ⊥) → Err BadMessage ≡ read_of s
      unfolding read_of
      another h = simp (le-ltb _ _ least, le-ltb _ _ most, ne_eqb _ _ (λ e. h (told ∙ e)))

      module _ (whole : size ≡ length s) {type : ℕ} (kind : type ≡ type_in s) where
        framed : (t : _) → too_short type (length s) ≡ t → too_short (type_in s) (length s) ≡ t
        framed t h = subst (λ (k : ℕ). too_short k (length s) ≡ t) kind h

        pub shorter : too_short type (length s) ≡ true → Err BadMessage ≡ read_of s
        unfolding read_of
        shorter h = simp (le-ltb _ _ least, le-ltb _ _ most, eq-eqb _ _ (sym told ∙ whole), framed true h)

        module _ (enough : too_short type (length s) ≡ false) {m : Message} (read : m ≡ fields_of type s) where
          fields : m ≡ fields_of (type_in s) s
          fields = read ∙ ap (λ (k : ℕ). fields_of k s) kind

          pub good : good_message m ≡ true → Ok m ≡ read_of s
          unfolding read_of
          good h = simp (le-ltb _ _ least, le-ltb _ _ most, eq-eqb _ _ (sym told ∙ whole), framed false enough, ← fields, h)

          pub broken : good_message m ≡ false → Err RuleBroken ≡ read_of s
          unfolding read_of
          broken h = simp (le-ltb _ _ least, le-ltb _ _ most, eq-eqb _ _ (sym told ∙ whole), framed false enough, ← fields, h)

-- what an accepted reading says
pub record Taken (s : List ℕ) (m : Message) : Type 0 where
  pub least : 3 ≤ length s
  pub most : length s ≤ 128
  pub size : size_in s ≡ length s
  pub enough : too_short (type_in s) (length s) ≡ false
  pub good : good_message m ≡ true
  pub fields : fields_of (type_in s) s ≡ m

refused_other : (r : Refusal) (m : Message) → ◌≡◌ {A = Result Message Refusal} (Err r) (Ok m) → ⊥
refused_other r m e = let z : ◌≡◌ {A = ℕ} 0 1 = cc in omega arith

same_message : (m n : Message) → ◌≡◌ {A = Result Message Refusal} (Ok m) (Ok n) → m ≡ n
same_message m n e = cc

pub taken : (s : List ℕ) (m : Message) → read_of s ≡ Ok m → Taken s m
unfolding read_of
taken s m h =
    let other = refused_other BadMessage m in
    let f = fields_of (type_in s) s in
    let d = passed ((ltb (length s) 3, Err BadMessage) ∷ (ltb 128 (length s), Err BadMessage) ∷ (not (eqb (size_in s) (length s)), Err BadMessage) ∷ (too_short (type_in s) (length s), Err BadMessage) ∷ (not (good_message f), Err RuleBroken) ∷ []) (Ok f) (Ok m) (other, (other, (other, (other, (refused_other RuleBroken m, tt))))) h in
    let same : f ≡ m = same_message f m d.1 in
    record {
      least = ltb-false (length s) 3 d.0.0;
      most = ltb-false 128 (length s) d.0.1.0;
      size = eqb-true (size_in s) (length s) (not-false (eqb (size_in s) (length s)) d.0.1.1.0);
      enough = d.0.1.1.1.0;
      good = subst (λ (k : Message). good_message k ≡ true) same (not-false (good_message f) d.0.1.1.1.1.0);
      fields = same;
    }
