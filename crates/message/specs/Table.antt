-- Document 01, "A fixed table gives the payload size by type".
-- Assumes nothing.
use Rattle.std.specs.Prelude.{Bool, not, ◌&&◌, cond, List, [], ◌∷◌, ℕ, zero, suc, ◌+◌, eqb, ltb, Option, Some, None}
use Rattle.wire.specs.Choice.{listed_at}

-- type and payload, as document 01 lists them
abbrev pub payloads : List (ℕ × ℕ)
payloads =
    (9, 33) ∷ (11, 13) ∷ (12, 17) ∷ (20, 9) ∷ (21, 52) ∷ (22, 32) ∷ (23, 18) ∷ (24, 34) ∷ (25, 42) ∷ (26, 43) ∷ (27, 47) ∷ (28, 0) ∷ []

-- the payload that a type needs; 255, more than any, says that the type is not listed
unfoldable pub payload_of : ℕ → ℕ
payload_of type = listed_at type payloads 255

-- the same of a type that may be listed
abbrev pub payload_listed : ℕ → Option ℕ
payload_listed type = cond (eqb (payload_of type) 255) None (Some (payload_of type))

-- n bytes are fewer than the 3 header bytes and a payload; of an unlisted type nothing is asked
abbrev pub below : ℕ → ℕ → Bool
below n payload = not (eqb payload 255) && ltb n (3 + payload)

-- a message of n bytes is of a listed type and shorter than 3 + payload
abbrev pub too_short : ℕ → ℕ → Bool
too_short type n = below n (payload_of type)

-- f 0, f 1, and so on: n of them
unfoldable pub tabulate : (ℕ → ℕ) → ℕ → List ℕ
tabulate f zero = []
tabulate f (suc n) = f 0 ∷ tabulate (λ k. f (suc k)) n

-- the payload of each type below 32: all that are listed are among them
unfoldable pub payload_table : List ℕ
payload_table = tabulate payload_of 32
