-- Document 01, "The capture program": a record is the mark A5 5A, a length of two bytes, high byte first, and that
-- many bytes of a packet.
-- Assumes nothing.
use Rattle.std.specs.Prelude.{Bool, false, cond, Option, None, Some, IfSome, not, ◌≡◌, List, [], ◌∷◌, ℕ, ◌+◌, ◌-◌, ◌≤◌, eqb, ltb, length, get_or}
use Rattle.wire.specs.Choice.{first_of}
use Rattle.wire.specs.Number.{num, part}

-- the mark A5 5A stands at a place
unfoldable pub marked_at : List ℕ → ℕ → Bool
marked_at s at = cond (eqb (get_or s at 0) 0xA5) (eqb (get_or s (at + 1) 0) 0x5A) false

-- how many bytes the whole record at a place has, its four in front counted; none where it is cut short or has no mark
unfoldable pub size_at : List ℕ → ℕ → Option ℕ
size_at s at =
    first_of
    ((ltb (length s - at) 4, None)
    ∷ (not (marked_at s at), None)
    ∷ (ltb (length s - at - 4) (num (part s (at + 2) 2)), None)
    ∷ [])
    (Some (4 + num (part s (at + 2) 2)))

-- four bytes are there, and no mark
unfoldable pub unmarked_at : List ℕ → ℕ → Bool
unmarked_at s at = cond (ltb (length s - at) 4) false (not (marked_at s at))

-- where a session opens whose first record has this packet
unfoldable pub opening_of : List ℕ → ℕ
opening_of packet = cond (ltb (length packet) 12) 0 (num (part packet 2 4))

pub record Sized (s : List ℕ) (at : ℕ) (r : Option ℕ) : Type 0 where
  pub is : r ≡ size_at s at
  pub head : IfSome r (λ size. 4 ≤ size)
  pub within : IfSome r (λ size. at + size ≤ length s)
