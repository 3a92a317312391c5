-- A text put at a place of a buffer, whole or not at all.
-- Assumes nothing.
use Rattle.std.specs.Prelude.{◌≡◌, List, ℕ, ◌+◌, ◌≤◌, ◌<◌, length}
use Rattle.io.specs.Digits.{last_digits, IsDigitCount}
use Rattle.wire.specs.Number.{splice}

-- r is the place behind the text, or the buffer's end where it did not fit
pub record Put (old : List ℕ) (at : ℕ) (text : List ℕ) (r : ℕ) (new : List ℕ) : Type 0 where
  pub within : r ≤ length new
  pub fits : at + length text ≤ length old → (r ≡ at + length text) × (new ≡ splice old at text)
  pub full : length old < at + length text → (r ≡ length old) × (new ≡ old)

-- the same of a number in decimal, with no zero in front
pub record PutNumber (old : List ℕ) (at n : ℕ) (r : ℕ) (new : List ℕ) : Type 0 where
  pub count : ℕ
  pub fewest : IsDigitCount 10 1 n count
  pub put : Put old at (last_digits 10 count n) r new
