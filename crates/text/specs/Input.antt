-- A buffer with what it held at its front, and what was read behind it.
-- Assumes nothing.
use Rattle.std.specs.Prelude.{◌≡◌, List, ℕ, ◌+◌, ◌-◌, ◌≤◌, length, take, drop}

-- Which bytes a read gives, no contract says.
pub record More (old : List ℕ) (from to r : ℕ) (new : List ℕ) : Type 0 where
  pub within : (to - from) + r ≤ length new
  pub held : take (to - from) new ≡ take (to - from) (drop from old)
