-- The messages that are applied straight from a packet: what waits while some of them are left.
-- Assumes nothing.
use Rattle.std.specs.Prelude.{◌≡◌, cond, List, ℕ, zero, suc, ◌+◌, ◌≤◌, eqb, length}
use Rattle.std.proofs.Math.Option.{Option, none, some}
use Rattle.wire.specs.Number.{part}
use Rattle.window_taking.specs.Keeping.{window_for}
use Rattle.window_taking.specs.Turns.{length_at}

-- what waits but under one number
abbrev pub freed : ℕ → (ℕ → Option (List ℕ)) → ℕ → Option (List ℕ)
freed k waiting j = cond (eqb j k) none (waiting j)

-- so many messages are left in the bytes from a place on, and wait from next on; once they are applied, the window holds what waits
abbrev pub Ahead : List ℕ → ℕ → ℕ → ℕ → List ℕ → (ℕ → Option (List ℕ)) → Type 0
Ahead s zero from next window waiting = window ≡ window_for waiting next
Ahead s (suc left) from next window waiting =
    (waiting next ≡ some (part s from (length_at s from))) × ((from + length_at s from ≤ length s) × Ahead s left (from + length_at s from) (next + 1) window (freed next waiting))
