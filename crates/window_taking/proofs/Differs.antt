-- Test 10: a message against the copy that waits under its number, and the messages of a packet one after the other.
-- Assumes nothing.
use mathlib.Core.Path.{◌≡◌, refl, ap, ◌∙◌, sym, subst}
use mathlib.Core.Bool.{Bool, true, false, cond, not}
use mathlib.Core.List.{List, [], ◌∷◌}
use mathlib.Core.Option.{Option, none, some}
use Prim.Native.Nat.{ℕ, zero, suc, ◌+◌, ◌-◌, ◌%◌, ◌≤◌, ◌<◌}
use native.Mathlib.Omega.{arith}
use borrow.Author.Tests.{eqb-true, ne_eqb}
use lib.Dec.{eqb}
use lib.ListN.{length, get_or, take, drop}
use Rattle.wire.specs.Number.{part}
use Rattle.packet.specs.Walk.{frames_from, size_at as size_in, walk_from}
use Rattle.std.specs.Prelude.{None}
use Rattle.window.specs.Window.{agreeing, size_at, start_of}
use Rattle.wire.proofs.Parts.{part_long}
use Rattle.message.specs.Whole.{Whole}
use Rattle.window_taking.specs.Taking.{bytes_at, differ_at, differ_from, is_some, offset_of}
use Rattle.window_taking.specs.Keeping.{waiting_of, Neat, Framed, Passed}
use Rattle.window.proofs.Agreeing.{lent}
use Rattle.window_taking.proofs.Walks.{Goes, goes}
use Rattle.window_taking.proofs.Windows.{place_free, place_used, waits_place, within_neat}

-- bytes that agree to the end of the second list are its bytes
step : (x y n : ℕ) (k : ℕ) → cond (eqb x y) (suc n) 0 ≡ suc k → (x ≡ y) × (n ≡ k)
step x y n k h = go (eqb x y) refl
  where
    go : (b : Bool) → eqb x y ≡ b → (x ≡ y) × (n ≡ k)
    go true e =
        let f : suc n ≡ suc k = simp e at h in
        (eqb-true x y e, omega arith)
    go false e =
        let f : ◌≡◌ {A = ℕ} 0 (suc k) = simp e at h in
        absurd (omega arith)

pub same_bytes : (xs ys : List ℕ) (j : ℕ) → agreeing xs ys ≡ length ys → j < length ys → get_or xs j 0 ≡ get_or ys j 0
unfolding agreeing
same_bytes xs [] j h l = absurd (omega arith)
same_bytes [] (y ∷ ys) j h l = absurd (omega arith)
same_bytes (x ∷ xs) (y ∷ ys) zero h l = (step x y (agreeing xs ys) (length ys) h).0
same_bytes (x ∷ xs) (y ∷ ys) (suc j) h l = same_bytes xs ys j (step x y (agreeing xs ys) (length ys) h).1 (omega arith)

-- messages that agree have one size
pub same_size : (copy bytes : List ℕ) → Whole copy → Whole bytes → agreeing copy bytes ≡ length bytes → length copy ≡ length bytes
same_size copy bytes one other h =
    let a : get_or copy 0 0 ≡ get_or bytes 0 0 = same_bytes copy bytes 0 h (omega (arith, other.least)) in
    let b : get_or copy 1 0 ≡ get_or bytes 1 0 = same_bytes copy bytes 1 h (omega (arith, other.least)) in
    omega (arith, a, b, one.told, other.told)

found : (b : Bool) (n : ℕ) → is_some (cond b none (some n)) ≡ not b
found true n = refl
found false n = refl

module _ {w bytes : List ℕ} {next k : ℕ} (neat : Neat w next) (sound : Whole bytes) (near : k < next + 256) where
  nothing : waiting_of w next k ≡ none → false ≡ is_some (differ_at (waiting_of w next k) bytes)
  nothing e = sym (ap (λ (o : Option (List ℕ)). is_some (differ_at o bytes)) e)

  pub passed_over : k < next → false ≡ is_some (differ_at (waiting_of w next k) bytes)
  passed_over below = nothing ((within_neat neat).low k below)

  module _ (from : next ≤ k) {there : ℕ} (told : there ≡ size_at w (k % 256)) where
    pub free : there ≡ 0 → false ≡ is_some (differ_at (waiting_of w next k) bytes)
    free e = nothing (waits_place w next k from near ∙ place_free w (k % 256) (sym told ∙ e))

    module _ (used : there ≡ 0 → ⊥) where
      abbrev copy : List ℕ
      copy = part w (start_of (k % 256)) there

      waits : waiting_of w next k ≡ some copy
      waits =
          waits_place w next k from near
          ∙ place_used w (k % 256) (λ e. used (told ∙ e))
          ∙ ap (λ (n : ℕ). some (part w (start_of (k % 256)) n)) (sym told)

      whole : Whole copy
      whole = neat.whole k copy waits

      by_bytes : is_some (differ_at (waiting_of w next k) bytes) ≡ not (eqb (agreeing copy bytes) (length bytes))
      by_bytes = ap (λ (o : Option (List ℕ)). is_some (differ_at o bytes)) waits ∙ found (eqb (agreeing copy bytes) (length bytes)) (agreeing copy bytes)

      pub sizes : (there ≡ length bytes → ⊥) → true ≡ is_some (differ_at (waiting_of w next k) bytes)
      sizes other =
          sym (by_bytes ∙ ap not (ne_eqb (agreeing copy bytes) (length bytes) (λ h. other (sym (part_long w (start_of (k % 256)) there) ∙ same_size copy bytes whole sound h))))

      pub compared : there ≡ length bytes → {r : Bool} → r ≡ eqb (agreeing (part w (start_of (k % 256)) (length bytes)) bytes) (length bytes) → not r ≡ is_some (differ_at (waiting_of w next k) bytes)
      compared e is =
          ap not (is ∙ ap (λ (n : ℕ). eqb (agreeing (part w (start_of (k % 256)) n) bytes) (length bytes)) (sym e)) ∙ sym by_bytes

-- the messages of a packet, one after the other
module _ (waiting : ℕ → Option (List ℕ)) (k : ℕ) (frame : ℕ × ℕ) (frames : List (ℕ × ℕ)) (s : List ℕ) where
  differ_here : is_some (differ_at (waiting k) (bytes_at s frame)) ≡ true → is_some (differ_from waiting k (frame ∷ frames) s) ≡ true
  unfolding differ_from
  differ_here h = go (differ_at (waiting k) (bytes_at s frame)) h
    where
      go : (o : Option ℕ) → is_some o ≡ true → is_some (elim o [ none ↦ differ_from waiting (k + 1) frames s | some byte ↦ some (offset_of frame byte) ]) ≡ true
      go none e = absurd (omega (arith, ap {B = ℕ} (λ (b : Bool). cond b 1 0) e))
      go (some at) e = refl

  differ_later : is_some (differ_at (waiting k) (bytes_at s frame)) ≡ false → differ_from waiting k (frame ∷ frames) s ≡ differ_from waiting (k + 1) frames s
  unfolding differ_from
  differ_later h = go (differ_at (waiting k) (bytes_at s frame)) h
    where
      go : (o : Option ℕ) → is_some o ≡ false → elim o [ none ↦ differ_from waiting (k + 1) frames s | some byte ↦ some (offset_of frame byte) ] ≡ differ_from waiting (k + 1) frames s
      go none e = refl
      go (some at) e = absurd (omega (arith, ap {B = ℕ} (λ (b : Bool). cond b 1 0) e))

pub record Seeking (w s : List ℕ) (next first messages at k left : ℕ) : Type 0 where
  pub neat : Neat w next
  pub walk : walk_from left at s ≡ None
  pub near : k + left ≤ next + 256
  pub rest : differ_from (waiting_of w next) first (frames_from messages 12 s) s ≡ differ_from (waiting_of w next) k (frames_from left at s) s

pub seek_start : {w s : List ℕ} {next first messages : ℕ} → Neat w next → Passed s next first messages → {left : ℕ} → left ≡ messages → Seeking w s next first messages 12 first left
seek_start {w} {s} {next} {first} {messages} neat passed all =
    subst (Seeking w s next first messages 12 first) (sym all) (record { neat = neat; walk = passed.walk; near = passed.near; rest = refl })

module _ {w s : List ℕ} {next first messages at k left : ℕ} (g : Seeking w s next first messages at k left) where
  pub seek_end : left ≤ 0 → false ≡ is_some (differ_from (waiting_of w next) first (frames_from messages 12 s) s)
  unfolding differ_from frames_from
  seek_end done =
      let z : left ≡ 0 = omega arith in
      sym (ap is_some (g.rest ∙ ap (λ (n : ℕ). differ_from (waiting_of w next) k (frames_from n at s) s) z))

  module _ {size : ℕ} (some : 0 < left) (told : size ≡ size_in s at) where
    there : Goes s at left
    there = goes s at left g.walk some

    pub seek_framed : Framed s at size
    seek_framed = subst (Framed s at) (sym told) there.framed

    -- as a slice lends it
    pub seek_lent : take (at + size - at) (drop at s) ≡ part s at size
    seek_lent = lent s at size seek_framed.within

    pub seek_whole : Whole (take (at + size - at) (drop at s))
    seek_whole = subst Whole (sym seek_lent) seek_framed.whole

    pub seek_near : k < next + 256
    seek_near = omega (arith, g.near)

    pub seek_room : at + 2 ≤ length s
    seek_room = omega (arith, there.framed.within, there.least)

    frames : differ_from (waiting_of w next) first (frames_from messages 12 s) s ≡ differ_from (waiting_of w next) k ((at, size) ∷ frames_from (left - 1) (at + size) s) s
    frames =
        g.rest
        ∙ ap (λ (l : List (ℕ × ℕ)). differ_from (waiting_of w next) k l s) there.frames
        ∙ ap (λ (n : ℕ). differ_from (waiting_of w next) k ((at, n) ∷ frames_from (left - 1) (at + n) s) s) (sym told)

    module _ {r : Bool} (is : r ≡ is_some (differ_at (waiting_of w next k) (take (at + size - at) (drop at s)))) where
      here : r ≡ is_some (differ_at (waiting_of w next k) (part s at size))
      here = is ∙ ap (λ (l : List ℕ). is_some (differ_at (waiting_of w next k) l)) seek_lent

      pub seek_here : r ≡ true → true ≡ is_some (differ_from (waiting_of w next) first (frames_from messages 12 s) s)
      seek_here e = sym (ap is_some frames ∙ differ_here (waiting_of w next) k (at, size) (frames_from (left - 1) (at + size) s) s (sym here ∙ e))

      pub seek_next : r ≡ false → {fewer : ℕ} → fewer ≡ left - 1 → Seeking w s next first messages (at + size) (k + 1) fewer
      seek_next e less =
          subst (Seeking w s next first messages (at + size) (k + 1)) (sym less)
          (record {
            neat = g.neat;
            walk = subst (λ (n : ℕ). walk_from (left - 1) (at + n) s ≡ None) (sym told) there.rest;
            near = omega (arith, g.near);
            rest = frames ∙ differ_later (waiting_of w next) k (at, size) (frames_from (left - 1) (at + size) s) s (sym here ∙ e);
          })
