-- Document 01, "message 3 to 128" and test 7: bytes that are one whole message.
-- Assumes nothing.
use Rattle.std.specs.Prelude.{◌≡◌, false, List, ℕ, ◌≤◌, length}
use Rattle.message.specs.Layouts.{size_in, type_in}
use Rattle.message.specs.Table.{too_short}

-- 3 to 128 bytes, as many as MessageSize says, and not too short for a listed type
pub record Whole (s : List ℕ) : Type 0 where
  pub least : 3 ≤ length s
  pub most : length s ≤ 128
  pub told : size_in s ≡ length s
  pub enough : too_short (type_in s) (length s) ≡ false
