-- Whether a packet follows, what is left of a burst behind it, and a burst handed in by parts.
-- Assumes nothing.
use mathlib.Core.Path.{◌≡◌, refl, ap, ap₂, ◌∙◌, sym, subst}
use mathlib.Core.Bool.{Bool, true, false, cond}
use mathlib.Core.List.{List, [], ◌∷◌, ◌++◌}
use Prim.Native.Nat.{ℕ, zero, suc, ◌+◌, ◌-◌, ◌≤◌, ◌<◌}
use native.Mathlib.Omega.{arith}
use borrow.Author.Tests.{eq-eqb, eqb-false, eqb-true, le-ltb, lt-ltb, ltb-false, ltb-true, ne_eqb}
use lib.Dec.{eqb, ltb}
use lib.ListN.{length, get_or, drop, length-drop}
use lib.Seq.{get_or-drop}
use Rattle.wire.specs.Number as number
use Rattle.wire.specs.Number.{num, part}
use Rattle.window_taking.specs.Turns.{behind, cut_at, done_in, end_from, frame_at, length_at, packet_at, packets_from, packets_in, Lies}
use Rattle.window_taking.specs.declared.burst.Frame.{Frame}
use Rattle.window_taking.specs.declared.burst.Turn.{Turn}

module _ (single : Bool) (s : List ℕ) (turn : Turn) where
  pub none_asked : turn.left ≡ 0 → true ≡ done_in single s turn
  none_asked e = sym (ap (λ (b : Bool). cond b true (cut_at single s turn.at)) (eq-eqb turn.left 0 e))

  module _ (some : turn.left ≡ 0 → ⊥) (within : turn.at ≤ length s) where
    asked : done_in single s turn ≡ cut_at single s turn.at
    asked = ap (λ (b : Bool). cond b true (cut_at single s turn.at)) (ne_eqb turn.left 0 some)

    pub one_packet : single ≡ true → false ≡ done_in single s turn
    one_packet e =
        sym (asked ∙ ap (λ (b : Bool). cut_at b s turn.at) e ∙ le-ltb (length s) (turn.at + (length s - turn.at)) (omega arith))

    module _ (many : single ≡ false) where
      framed : done_in single s turn ≡ ltb (length s) (turn.at + 2 + length_at s turn.at)
      framed = asked ∙ ap (λ (b : Bool). cut_at b s turn.at) many

      pub no_length : length s - turn.at < 2 → true ≡ done_in single s turn
      no_length h = sym (framed ∙ lt-ltb (length s) (turn.at + 2 + length_at s turn.at) (omega arith))

      pub by_length : 2 ≤ length s - turn.at → {frame : Frame} → frame ≡ frame_at false s turn.at → ltb (length s - turn.at - 2) frame.size ≡ done_in single s turn
      by_length h {frame} is =
          let told : frame.size ≡ length_at s turn.at = ap (λ (f : Frame). f.size) is in
          go told (ltb (length s - turn.at - 2) frame.size) refl
        where
          go : frame.size ≡ length_at s turn.at → (b : Bool) → ltb (length s - turn.at - 2) frame.size ≡ b → ltb (length s - turn.at - 2) frame.size ≡ done_in single s turn
          go told true e = e ∙ sym (framed ∙ lt-ltb (length s) (turn.at + 2 + length_at s turn.at) (omega (arith, ltb-true (length s - turn.at - 2) frame.size e)))
          go told false e = e ∙ sym (framed ∙ le-ltb (length s) (turn.at + 2 + length_at s turn.at) (omega (arith, ltb-false (length s - turn.at - 2) frame.size e)))

-- what is left, where none follows and where one does
module _ (single : Bool) (s : List ℕ) (at : ℕ) where
  module _ (cut : cut_at single s at ≡ true) where
    cut_packets : (n : ℕ) → packets_from single n at s ≡ []
    unfolding packets_from
    cut_packets zero = refl
    cut_packets (suc n) = ap (λ (b : Bool). cond b [] (packet_at single s at ∷ packets_from single n (behind single s at) s)) cut

    cut_end : (n : ℕ) → end_from single n at s ≡ at
    unfolding end_from
    cut_end zero = refl
    cut_end (suc n) = ap (λ (b : Bool). cond b at (end_from single n (behind single s at) s)) cut

  module _ (fits : cut_at single s at ≡ false) where
    lies : Lies single s at
    lies = let h : behind single s at ≤ length s = ltb-false (length s) (behind single s at) fits in record { start = omega arith; within = h }

    next_packets : (n : ℕ) → packets_from single (suc n) at s ≡ packet_at single s at ∷ packets_from single n (behind single s at) s
    unfolding packets_from
    next_packets n = ap (λ (b : Bool). cond b [] (packet_at single s at ∷ packets_from single n (behind single s at) s)) fits

    next_end : (n : ℕ) → end_from single (suc n) at s ≡ end_from single n (behind single s at) s
    unfolding end_from
    next_end n = ap (λ (b : Bool). cond b at (end_from single n (behind single s at) s)) fits

-- the same of a turn
pub record Ended (single : Bool) (s : List ℕ) (turn : Turn) : Type 0 where
  pub packets : packets_from single turn.left turn.at s ≡ []
  pub end : end_from single turn.left turn.at s ≡ turn.at

pub record Another (single : Bool) (s : List ℕ) (turn : Turn) : Type 0 where
  pub some : 1 ≤ turn.left
  pub lies : Lies single s turn.at
  pub packets : packets_from single turn.left turn.at s ≡ packet_at single s turn.at ∷ packets_from single (turn.left - 1) (behind single s turn.at) s
  pub end : end_from single turn.left turn.at s ≡ end_from single (turn.left - 1) (behind single s turn.at) s

module _ (single : Bool) (s : List ℕ) (turn : Turn) where
  done_by : (left : ℕ) (b : Bool) → eqb left 0 ≡ b → cond b true (cut_at single s turn.at) ≡ true → (packets_from single left turn.at s ≡ []) × (end_from single left turn.at s ≡ turn.at)
  unfolding packets_from end_from
  done_by left true e h = let z : 0 ≡ left = sym (eqb-true left 0 e) in subst (λ (n : ℕ). (packets_from single n turn.at s ≡ []) × (end_from single n turn.at s ≡ turn.at)) z (refl, refl)
  done_by left false e h = (cut_packets single s turn.at h left, cut_end single s turn.at h left)

  pub ended : done_in single s turn ≡ true → Ended single s turn
  ended h = let d = done_by turn.left (eqb turn.left 0) refl h in record { packets = d.0; end = d.1 }

  pub another : done_in single s turn ≡ false → Another single s turn
  another h = go (eqb turn.left 0) refl h
    where
      go : (b : Bool) → eqb turn.left 0 ≡ b → cond b true (cut_at single s turn.at) ≡ false → Another single s turn
      go true e f = absurd (omega (arith, ap {B = ℕ} (λ (b : Bool). cond b 1 0) f))
      go false e f =
          let some : 1 ≤ turn.left = omega (arith, eqb-false turn.left 0 e) in
          let one : turn.left ≡ suc (turn.left - 1) = omega arith in
          record {
            some = some;
            lies = lies single s turn.at f;
            packets = ap (λ (n : ℕ). packets_from single n turn.at s) one ∙ next_packets single s turn.at f (turn.left - 1);
            end = ap (λ (n : ℕ). end_from single n turn.at s) one ∙ next_end single s turn.at f (turn.left - 1);
          }

-- ---- packets handed in by parts

-- no more than n
pub packets_most : (single : Bool) (n at : ℕ) (s : List ℕ) → length (packets_from single n at s) ≤ n
unfolding packets_from
packets_most single zero at s = omega arith
packets_most single (suc n) at s = go (cut_at single s at) (packets_most single n (behind single s at) s)
  where
    go : (b : Bool) → length (packets_from single n (behind single s at) s) ≤ n → length (cond b [] (packet_at single s at ∷ packets_from single n (behind single s at) s)) ≤ suc n
    go true h = omega arith
    go false h = omega arith

-- and they end within the bytes
pub end_within : (single : Bool) (n at : ℕ) (s : List ℕ) → at ≤ length s → end_from single n at s ≤ length s
unfolding end_from
end_within single zero at s h = h
end_within single (suc n) at s h = go (cut_at single s at) refl (end_within single n (behind single s at) s)
  where
    go : (b : Bool) → cut_at single s at ≡ b → (behind single s at ≤ length s → end_from single n (behind single s at) s ≤ length s) → cond b at (end_from single n (behind single s at) s) ≤ length s
    go true e more = h
    go false e more = more (ltb-false (length s) (behind single s at) e)

-- the first n, and m from where those end on
pub packets_more : (single : Bool) (n m at : ℕ) (s : List ℕ) → packets_from single (n + m) at s ≡ packets_from single n at s ++ packets_from single m (end_from single n at s) s
unfolding packets_from end_from
packets_more single zero m at s = let e : 0 + m ≡ m = omega arith in ap (λ (k : ℕ). packets_from single k at s) e
packets_more single (suc n) m at s =
    let e : suc n + m ≡ suc (n + m) = omega arith in
    ap (λ (k : ℕ). packets_from single k at s) e ∙ go (cut_at single s at) refl (packets_more single n m (behind single s at) s)
  where
    go : (b : Bool) → cut_at single s at ≡ b → packets_from single (n + m) (behind single s at) s ≡ packets_from single n (behind single s at) s ++ packets_from single m (end_from single n (behind single s at) s) s
        → cond b [] (packet_at single s at ∷ packets_from single (n + m) (behind single s at) s) ≡ cond b [] (packet_at single s at ∷ packets_from single n (behind single s at) s) ++ packets_from single m (cond b at (end_from single n (behind single s at) s)) s
    go true e more = sym (cut_packets single s at e m)
    go false e more = ap (λ (l : List (List ℕ)). packet_at single s at ∷ l) more

-- the bytes from a place on, by themselves
behind-drop : (s : List ℕ) (from at k w : ℕ) → number.behind (drop from s) at k w ≡ number.behind s (from + at) k w
behind-drop s from at k zero = refl
behind-drop s from at k (suc w) =
    let e : from + (at + k) ≡ from + at + k = omega arith in
    ap₂ ◌∷◌ (get_or-drop from s (at + k) 0 ∙ ap (λ (j : ℕ). get_or s j 0) e) (behind-drop s from at (suc k) w)

part-drop : (s : List ℕ) (from at w : ℕ) → part (drop from s) at w ≡ part s (from + at) w
part-drop s from at zero = refl
part-drop s from at (suc w) = ap₂ ◌∷◌ (get_or-drop from s at 0) (behind-drop s from at 1 w)

module _ (s : List ℕ) (from : ℕ) (within : from ≤ length s) where
  length_from : (at : ℕ) → length_at (drop from s) at ≡ length_at s (from + at)
  length_from at = ap num (part-drop s from at 2)

  behind_from : (at : ℕ) → from + behind false (drop from s) at ≡ behind false s (from + at)
  behind_from at = omega (arith, length_from at)

  cut_from : (at : ℕ) → cut_at false (drop from s) at ≡ cut_at false s (from + at)
  cut_from at = go (cut_at false (drop from s) at) refl
    where
      go : (b : Bool) → cut_at false (drop from s) at ≡ b → cut_at false (drop from s) at ≡ cut_at false s (from + at)
      go true e = e ∙ sym (lt-ltb (length s) (behind false s (from + at)) (omega (arith, within, length-drop from s, behind_from at, ltb-true (length (drop from s)) (behind false (drop from s) at) e)))
      go false e = e ∙ sym (le-ltb (length s) (behind false s (from + at)) (omega (arith, within, length-drop from s, behind_from at, ltb-false (length (drop from s)) (behind false (drop from s) at) e)))

  packet_from : (at : ℕ) → packet_at false (drop from s) at ≡ packet_at false s (from + at)
  packet_from at =
      let e : from + (at + 2) ≡ from + at + 2 = omega arith in
      part-drop s from (at + 2) (length_at (drop from s) at) ∙ ap₂ (part s) e (length_from at)

  pub packets_from_lem : (n at : ℕ) → packets_from false n at (drop from s) ≡ packets_from false n (from + at) s
  unfolding packets_from
  packets_from_lem zero at = refl
  packets_from_lem (suc n) at =
      let more : packets_from false n (behind false (drop from s) at) (drop from s) ≡ packets_from false n (behind false s (from + at)) s = packets_from_lem n (behind false (drop from s) at) ∙ ap (λ (k : ℕ). packets_from false n k s) (behind_from at) in
      λ i. cond (cut_from at i) [] (packet_from at i ∷ more i)

-- so many, and then so many of the bytes behind them
pub packets_onward : (n m : ℕ) (s : List ℕ) → packets_in (n + m) s ≡ packets_in n s ++ packets_in m (drop (end_from false n 0 s) s)
packets_onward n m s =
    let within : end_from false n 0 s ≤ length s = end_within false n 0 s (omega arith) in
    let e : end_from false n 0 s ≡ end_from false n 0 s + 0 = omega arith in
    packets_more false n m 0 s
    ∙ ap (λ (l : List (List ℕ)). packets_in n s ++ l) (ap (λ (k : ℕ). packets_from false m k s) e ∙ sym (packets_from_lem s (end_from false n 0 s) within m 0))
