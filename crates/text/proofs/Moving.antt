-- Bytes moved down to the front of their own list.
-- Assumes nothing.
use mathlib.Core.Path.{◌≡◌, ap, ◌∙◌}
use mathlib.Core.List.{List, ◌++◌}
use Prim.Native.Nat.{ℕ, ◌+◌, ◌-◌, ◌≤◌}
use native.Mathlib.Omega.{arith}
use lib.ListN.{length, take, drop, length-append, length-drop, length-take}
use lib.Seq.{take_at, length-take-le}
use Rattle.std.specs.List.{copy_within}
use Rattle.text.specs.Input.{More}

-- the bytes between two places, moved to the front
pub moved : (s : List ℕ) (from to : ℕ) {t : List ℕ} → from ≤ to → to ≤ length s → t ≡ copy_within s from to 0 → take (to - from) t ≡ take (to - from) (drop from s)
moved s from to order room e =
    let there : to - from ≤ length (drop from s) = rw length-drop (omega arith) in
    ap (take (to - from)) e
    ∙ take_at (take (to - from) (drop from s)) (drop (0 + (to - from)) s) (to - from) (length-take-le (to - from) (drop from s) there)

-- a part read behind what is held
pub more_read : (old shifted : List ℕ) (from to k : ℕ) (ys : List ℕ) (r : ℕ) → to - from ≤ length shifted → take (to - from) shifted ≡ take (to - from) (drop from old) → r ≤ length ys → More old from to r (take (to - from) shifted ++ (ys ++ drop k (drop (to - from) shifted)))
more_read old shifted from to k ys r room held most =
    let whole : length (take (to - from) shifted) ≡ to - from = rw length-take (omega arith) in
    record {
      within = simp (length-append, whole) (omega arith);
      held = take_at (take (to - from) shifted) (ys ++ drop k (drop (to - from) shifted)) (to - from) whole ∙ held;
    }
