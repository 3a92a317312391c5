-- The tests that the rules are made of.
use Rattle.std.specs.Prelude.{ℕ, zero, suc, Bool, true, ◌&&◌, ◌||◌, List, ◌==◌, nat_le, slice_index}

-- x is one of low to high
unfoldable pub between : ℕ → ℕ → ℕ → Bool
between low high x = nat_le low x && nat_le x high

-- x is a or b
unfoldable pub either : ℕ → ℕ → ℕ → Bool
either a b x = x == a || x == b

-- each of the first k bytes passes the test
unfoldable pub first_all : (ℕ → Bool) → ℕ → List ℕ → Bool
first_all test zero bytes = true
first_all test (suc k) bytes = first_all test k bytes && test (slice_index bytes k)
