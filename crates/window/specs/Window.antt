-- Document 01, "waiting window 256 numbers": 256 places of 128 bytes, one behind the other. Number k waits at place k % 256,
-- its message first, zeros behind it; a place whose size bytes are 0 is free.
-- Assumes nothing.
use Rattle.std.specs.Prelude as std
use Rattle.std.specs.Prelude.{cond, List, [], ◌∷◌, ◌++◌, ℕ, zero, suc, ◌-◌, ◌*◌, eqb, length, replicate}
use Rattle.std.proofs.Math.Option.{Option, none, some}
use Rattle.wire.specs.Number.{num, part}

-- where a place starts
abbrev pub start_of : ℕ → ℕ
start_of place = place * 128

-- MessageSize of what waits at a place; 0 where it is free
unfoldable pub size_at : List ℕ → ℕ → ℕ
size_at window place = num (part window (start_of place) 2)

-- the same, if it is not 0
abbrev pub some_size : ℕ → std.Option ℕ
some_size size = cond (eqb size 0) std.None (std.Some size)

-- what waits at a place
unfoldable pub waits_at : List ℕ → ℕ → Option (List ℕ)
waits_at window place = cond (eqb (size_at window place) 0) none (some (part window (start_of place) (size_at window place)))

unfoldable pub zeros : ℕ → List ℕ
zeros n = replicate n 0

-- a place as it stands in memory
unfoldable pub place_of : Option (List ℕ) → List ℕ
place_of none = zeros 128
place_of (some message) = message ++ zeros (128 - length message)

-- the places from one on, so many
unfoldable pub places_from : (ℕ → Option (List ℕ)) → ℕ → ℕ → List ℕ
places_from waits place zero = []
places_from waits place (suc n) = place_of (waits place) ++ places_from waits (suc place) n

-- the one window that holds what waits
unfoldable pub window_of : (ℕ → Option (List ℕ)) → List ℕ
window_of waits = places_from waits 0 256

-- how many bytes of two lists agree, from the front
unfoldable pub agreeing : List ℕ → List ℕ → ℕ
agreeing [] [] = 0
agreeing [] (y ∷ ys) = 0
agreeing (x ∷ xs) [] = 0
agreeing (x ∷ xs) (y ∷ ys) = cond (eqb x y) (suc (agreeing xs ys)) 0
