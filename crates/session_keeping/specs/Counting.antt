-- How many messages are counted apart, by what was accepted: no session is in sight.
-- Assumes nothing.
use Rattle.std.specs.Prelude.{Bool, false, List, ℕ, ◌-◌}
use Rattle.std.proofs.Math.Option.{Option, none, some}
use Rattle.merge.specs.State.{Packet, count_from}
use Rattle.merge.specs.History.{first_copy}
use Rattle.book.specs.Applying.{is_apart}
use Rattle.book.specs.declared.tables.OpeningRule.{OpeningRule}

-- whether there is a message, and it is one that is counted apart
abbrev pub apart_if : OpeningRule → Option (List ℕ) → Bool
apart_if rule none = false
apart_if rule (some m) = is_apart rule m

-- how many of the messages s to n - 1 are, each by its first copy
unfoldable pub apart_of : OpeningRule → List (Packet (List ℕ)) → ℕ → ℕ → ℕ
apart_of rule h s n = count_from (λ k. apart_if rule (first_copy h k)) s (n - s)
