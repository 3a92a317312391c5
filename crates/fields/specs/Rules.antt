-- The field rules of messages 20 to 27, but for the id's (Id.antt).
use Rattle.std.specs.Prelude.{ℕ, Bool, not, ◌&&◌, ◌||◌, List, ◌==◌, nat_le, slice_index}
use Rattle.fields.specs.Tests.{between, either, first_all}

-- from 0x20 to 0x7E
abbrev pub is_printable : ℕ → Bool
is_printable = between 0x20 0x7E

-- 14 bytes from 0x20 to 0x7E, the first not a space
unfoldable pub good_symbol : List ℕ → Bool
good_symbol symbol = first_all is_printable 14 symbol && not (slice_index symbol 0 == 0x20)

-- B or S
abbrev pub good_side : ℕ → Bool
good_side side = either 0x42 0x53 side

-- B: the side of a Trade
abbrev pub good_trade_side : ℕ → Bool
good_trade_side side = side == 0x42

-- at least 1
abbrev pub good_quantity : ℕ → Bool
good_quantity quantity = nat_le 1 quantity

-- 1 to the largest price
abbrev pub good_price : ℕ → Bool
good_price price = between 1 9_223_372_036_854_775_807 price

-- 0 to the largest price: in a Top of Book
abbrev pub good_inside_price : ℕ → Bool
good_inside_price price = between 0 9_223_372_036_854_775_807 price

-- Y or N
abbrev pub good_unsolicited : ℕ → Bool
good_unsolicited flag = either 0x59 0x4E flag

-- 1, 5 or 6
abbrev pub good_session : ℕ → Bool
good_session session = session == 1 || either 5 6 session
