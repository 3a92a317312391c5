-- What the replay's session keeps.
-- Assumes nothing.
use Rattle.std.specs.Prelude.{◌≡◌}
use Rattle.book.specs.declared.tables.OpeningRule.TheVariants.{Strict}
use Rattle.session.specs.Meaning.{Held, Ruled, rule_in}

-- a session that keeps its rule, and was opened by the strict one
pub record Strictly (h : Held) : Type 0 where
  pub rule : Ruled h
  pub strict : rule_in h.room ≡ Strict
