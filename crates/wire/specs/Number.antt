-- Document 01, "Big endian throughout": a number and its bytes, and a place in lent bytes.
-- Assumes nothing.
use Rattle.std.specs.Prelude.{List, [], ◌∷◌, ◌++◌, ℕ, zero, suc, ◌+◌, ◌*◌, ◌/◌, ◌%◌, ◌^◌, ◌<◌, length, get_or, take, drop}

-- the number that bytes stand for: the first byte weighs most
abbrev pub num : List ℕ → ℕ
num [] = 0
num (b ∷ bs) = b * 256 ^ length bs + num bs

-- a number's byte with w more behind it
abbrev pub byte_of : ℕ → ℕ → ℕ
byte_of zero n = n % 256
byte_of (suc w) n = n / 256 ^ suc w % 256

-- the w bytes that a number is written in
abbrev pub be : ℕ → ℕ → List ℕ
be zero n = []
be (suc w) n = byte_of w n ∷ be w n

-- w bytes, from the k-th behind a place on
abbrev pub behind : List ℕ → ℕ → ℕ → ℕ → List ℕ
behind s at k zero = []
behind s at k (suc w) = get_or s (at + k) 0 ∷ behind s at (suc k) w

-- the w bytes that stand at a place (the law `part-is`: they are `take w (drop at s)`)
abbrev pub part : List ℕ → ℕ → ℕ → List ℕ
part s at zero = []
part s at (suc w) = get_or s at 0 ∷ behind s at 1 w

-- bytes put at a place, all others staying
unfoldable pub splice : List ℕ → ℕ → List ℕ → List ℕ
splice s at bs = take at s ++ (bs ++ drop (at + length bs) s)

-- bytes: each below 256
abbrev pub Bytes : List ℕ → Type 0
Bytes [] = Unit {0}
Bytes (b ∷ bs) = (b < 256) × Bytes bs
