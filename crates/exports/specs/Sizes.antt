-- What a host must hold, in bytes, with the alignment of each; and the constants of a session.
-- Assumes nothing.
use Rattle.std.specs.Prelude.{List, [], ◌∷◌, ℕ, ◌*◌}
use Rattle.book_room.specs.Room.{room_size}

-- 256 orders of 40 bytes, 2,308 numbers of 8, 256 places of 128 bytes; live orders, insides, numbers; a packet's bytes at least and at
-- most, a message's at most
abbrev pub size_numbers : List ℕ
size_numbers = 256 * 40 ∷ 8 ∷ room_size * 8 ∷ 8 ∷ 256 * 128 ∷ 1 ∷ 256 ∷ 64 ∷ 256 ∷ 12 ∷ 1472 ∷ 128 ∷ []
