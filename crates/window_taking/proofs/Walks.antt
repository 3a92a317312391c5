-- The messages of a packet that passed test 7, one after the other.
-- Assumes nothing.
use mathlib.Core.Path.{◌≡◌, refl, ap, sym}
use mathlib.Core.Bool.{Bool, true, false, cond}
use mathlib.Core.List.{List, ◌∷◌}
use Prim.Native.Nat.{ℕ, zero, suc, ◌+◌, ◌-◌, ◌≤◌, ◌<◌}
use native.Mathlib.Omega.{arith}
use Rattle.packet.specs.Judging.{is_broken}
use Rattle.packet.specs.Walk.{broken_at, frames_from, size_at, step_at, walk_from}
use Rattle.std.specs.Prelude as std
use Rattle.std.specs.Prelude.{None, Some}
use Rattle.packet.proofs.Walking.{Lies, lies}
use Rattle.window_taking.specs.Keeping.{Framed}
use Rattle.window_taking.proofs.Whole.{whole_part}

pub unbroken : (w : std.Option ℕ) → is_broken w ≡ false → w ≡ None
unbroken None e = refl
unbroken (Some at) e = absurd (omega (arith, ap {B = ℕ} (λ (b : Bool). cond b 1 0) e))

framed_at : (s : List ℕ) (at : ℕ) → broken_at s at ≡ false → Framed s at (size_at s at)
unfolding step_at
framed_at s at e =
    let l : Lies s at (size_at s at) = lies s at e in
    let step : size_at s at ≡ step_at s at = sym (simp e) in
    record { within = l.within; most = l.most; whole = whole_part s at step (λ z. omega (arith, l.least)) }

-- the first of the messages that are left lies in the packet, and the walk goes on behind it
pub record Goes (s : List ℕ) (at left : ℕ) : Type 0 where
  pub framed : Framed s at (size_at s at)
  pub least : 3 ≤ size_at s at
  pub rest : walk_from (left - 1) (at + size_at s at) s ≡ None
  pub frames : frames_from left at s ≡ (at, size_at s at) ∷ frames_from (left - 1) (at + size_at s at) s

pub goes : (s : List ℕ) (at left : ℕ) → walk_from left at s ≡ None → 0 < left → Goes s at left
unfolding walk_from frames_from
goes s at zero walk some = absurd (omega arith)
goes s at (suc left) walk some = go (broken_at s at) refl
  where
    one : suc left - 1 ≡ left
    one = omega arith

    go : (b : Bool) → broken_at s at ≡ b → Goes s at (suc left)
    go true e =
        let bad : Some at ≡ None = simp e at walk in
        absurd (omega (arith, ap {B = ℕ} (λ (w : std.Option ℕ). cond (is_broken w) 1 0) bad))
    go false e =
        let good : walk_from left (at + size_at s at) s ≡ None = simp e at walk in
        record {
          framed = framed_at s at e;
          least = (lies s at e).least;
          rest = rw one good;
          frames = rw one refl;
        }
