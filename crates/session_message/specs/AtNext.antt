-- Where the message at next lies: straight in the lent bytes, while some are left there, or else in its place in the window, while some
-- that wait are due.
-- Assumes nothing.
use Rattle.std.specs.Prelude.{◌≡◌, Bool, cond, List, ℕ, ◌+◌, ◌-◌, ◌≤◌, eqb, length, take}
use Rattle.wire.specs.Number.{num, part, splice}
use Rattle.window.specs.Window.{size_at, start_of, zeros}
use Rattle.session_message.specs.declared.PacketRest.{PacketRest}

-- none is left in the packet: the message lies in the window
abbrev pub in_window : PacketRest → Bool
in_window x = eqb x.left 0

-- how many messages are due: those that are left in the packet, or so many of those that wait
abbrev pub due_of : PacketRest → ℕ
due_of x = cond (in_window x) x.from x.left

abbrev pub due_size : ℕ → ℕ → ℕ
due_size due size = cond (eqb due 0) 0 size

-- its size, 0 where there is none
unfoldable pub size_in : List ℕ → List ℕ → PacketRest → ℕ → ℕ
size_in window s x place = cond (in_window x) (due_size x.from (size_at window place)) (num (part s x.from 2))

-- a place of the window is copied out and made free; the packet is left alone
unfoldable pub text_after : List ℕ → List ℕ → PacketRest → ℕ → List ℕ
text_after window text x place = cond (in_window x) (part window (start_of place) 128) text

unfoldable pub window_after : List ℕ → PacketRest → ℕ → List ℕ
window_after window x place = cond (in_window x) (splice window (start_of place) (zeros 128)) window

-- the message: what was copied out, or what the packet has
unfoldable pub message_at : List ℕ → List ℕ → PacketRest → ℕ → List ℕ
message_at text s x size = cond (in_window x) (take size text) (part s x.from size)

-- past a message: one less is due, in the packet or of those that wait
unfoldable pub onward_of : PacketRest → ℕ → PacketRest
onward_of x size = cond (in_window x) (record { left = 0; from = x.from - 1 }) (record { left = x.left - 1; from = x.from + size })

-- what is read lies in the bytes
pub record Begins (s : List ℕ) (x : PacketRest) : Type 0 where
  pub within : (x.left ≡ 0 → ⊥) → x.from + 2 ≤ length s

pub record Goes (x : PacketRest) (size : ℕ) : Type 0 where
  pub due : x.left ≡ 0 → 1 ≤ x.from
  pub within : (x.left ≡ 0 → ⊥) → x.from + size ≤ 18446744073709551615

pub record Lies (s : List ℕ) (x : PacketRest) (size : ℕ) : Type 0 where
  pub within : (x.left ≡ 0 → ⊥) → x.from + size ≤ length s
