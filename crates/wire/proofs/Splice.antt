-- Bytes that replace a part of what is lent are one splice.
-- Assumes nothing.
use mathlib.Core.Path.{◌≡◌}
use mathlib.Core.List.{List}
use Prim.Native.Nat.{ℕ, ◌+◌, ◌-◌}
use native.Mathlib.Omega.{arith}
use lib.ListN.{length}
use borrow.Rule.Slice.PartMut.{put_mid}
use lib.Seq.{drop-drop}
use Rattle.wire.specs.Number.{splice}

-- bytes that replace a part as long as they are
pub replaced : (s : List ℕ) (at : ℕ) (bs new : List ℕ) → new ≡ bs → put_mid at (at + length bs - at) s new ≡ splice s at bs
unfolding splice
replaced s at bs new e =
    let k : at + length bs - at ≡ length bs = omega arith in
    rw (k, e, drop-drop (length bs) at s)
