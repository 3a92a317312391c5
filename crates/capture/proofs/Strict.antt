-- A packet that is taken leaves the rule of the opening.
-- Assumes nothing.
use mathlib.Core.Path.{◌≡◌, refl, ◌∙◌}
use mathlib.Core.List.{List}
use Prim.Native.Nat.{ℕ}
use Rattle.merge.specs.State.{opened, take_one}
use Rattle.book.specs.Tables.{Tables, fresh}
use Rattle.book.specs.declared.tables.OpeningRule.TheVariants.{Strict}
use Rattle.book.proofs.Laws.{rule_stays}
use Rattle.session.specs.Meaning.{Held, Ruled, overnight, rep, view}
use Rattle.session.proofs.States.{rule_held}
use Rattle.session.proofs.Through.{by_take}
use Rattle.capture.specs.Replays.{Strictly}

pub opened_strictly : (n : ℕ) {h : Held} → h ≡ rep (opened (fresh Strict) n) → Ruled h → Strictly h
unfolding opened
opened_strictly n is rule = record { rule = rule; strict = rule_held (opened (fresh Strict) n) is }

pub taken_strictly : {h g : Held} (packet : List ℕ) → Strictly h → g ≡ rep (take_one overnight (view h) packet) → Ruled g → Strictly g
taken_strictly {h} packet before is rule =
    record {
      rule = rule;
      strict =
          rule_held (take_one overnight (view h) packet) is
          ∙ by_take (λ (t u : Tables). u.unlisted.rule ≡ t.unlisted.rule) (λ t. refl) (λ t u v a b. b ∙ a) rule_stays (view h) packet
          ∙ before.strict;
    }
