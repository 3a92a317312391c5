-- The two places where a message can lie, one after the other.
-- Assumes nothing.
use mathlib.Core.Path.{◌≡◌, ap, ◌∙◌, sym}
use mathlib.Core.Bool.{true, false, cond}
use mathlib.Core.List.{List}
use Prim.Native.Nat.{ℕ, ◌+◌, ◌-◌}
use borrow.Author.Tests.{eq-eqb, ne_eqb}
use lib.ListN.{take, drop}
use Rattle.wire.specs.Number.{num, part, splice}
use Rattle.window.specs.Window.{size_at, start_of, zeros}
use Rattle.window.proofs.Agreeing.{lent}
use Rattle.session_message.specs.AtNext.{Lies, due_size, in_window, message_at, onward_of, size_in, text_after, window_after}
use Rattle.session_message.specs.declared.PacketRest.{PacketRest}

module _ (x : PacketRest) (none : x.left ≡ 0) where
  yes : in_window x ≡ true
  yes = eq-eqb x.left 0 none

  pub size_window : (w s : List ℕ) (place : ℕ) → size_in w s x place ≡ due_size x.from (size_at w place)
  unfolding size_in
  size_window w s place = ap (λ b. cond b (due_size x.from (size_at w place)) (num (part s x.from 2))) yes

  pub text_window : (w text : List ℕ) (place : ℕ) → text_after w text x place ≡ part w (start_of place) 128
  unfolding text_after
  text_window w text place = ap (λ b. cond b (part w (start_of place) 128) text) yes

  pub freed_window : (w : List ℕ) (place : ℕ) → window_after w x place ≡ splice w (start_of place) (zeros 128)
  unfolding window_after
  freed_window w place = ap (λ b. cond b (splice w (start_of place) (zeros 128)) w) yes

  pub message_window : (text s : List ℕ) (size : ℕ) → message_at text s x size ≡ take size text
  unfolding message_at
  message_window text s size = ap (λ b. cond b (take size text) (part s x.from size)) yes

  pub onward_window : (size : ℕ) → onward_of x size ≡ record { left = 0; from = x.from - 1 }
  unfolding onward_of
  onward_window size = ap (λ b. cond b (record { left = 0; from = x.from - 1 }) (record { left = x.left - 1; from = x.from + size })) yes

module _ (x : PacketRest) (some : x.left ≡ 0 → ⊥) where
  no : in_window x ≡ false
  no = ne_eqb x.left 0 some

  pub size_packet : (w s : List ℕ) (place : ℕ) → size_in w s x place ≡ num (part s x.from 2)
  unfolding size_in
  size_packet w s place = ap (λ b. cond b (due_size x.from (size_at w place)) (num (part s x.from 2))) no

  pub text-packet : (w text : List ℕ) (place : ℕ) → text_after w text x place ≡ text
  unfolding text_after
  text-packet w text place = ap (λ b. cond b (part w (start_of place) 128) text) no

  pub freed-packet : (w : List ℕ) (place : ℕ) → window_after w x place ≡ w
  unfolding window_after
  freed-packet w place = ap (λ b. cond b (splice w (start_of place) (zeros 128)) w) no

  pub message_packet : (text s : List ℕ) (size : ℕ) → message_at text s x size ≡ part s x.from size
  unfolding message_at
  message_packet text s size = ap (λ b. cond b (take size text) (part s x.from size)) no

  pub onward_packet : (size : ℕ) → onward_of x size ≡ record { left = x.left - 1; from = x.from + size }
  unfolding onward_of
  onward_packet size = ap (λ b. cond b (record { left = 0; from = x.from - 1 }) (record { left = x.left - 1; from = x.from + size })) no

  -- the bytes that are lent
  pub lent-packet : {s : List ℕ} {size : ℕ} (text : List ℕ) → Lies s x size → take (x.from + size - x.from) (drop x.from s) ≡ message_at text s x size
  lent-packet {s} {size} text lies = lent s x.from size (lies.within some) ∙ sym (message_packet text s size)
