-- Where a packet lies in the lent bytes.
-- Assumes nothing.
use mathlib.Core.Path.{◌≡◌, refl, ap, ◌∙◌, sym, subst}
use mathlib.Core.Bool.{Bool, true, false, not}
use mathlib.Core.List.{List, [], ◌∷◌}
use Prim.Native.Nat.{ℕ, ◌+◌, ◌-◌, ◌≤◌, min}
use native.Mathlib.Omega.{arith}
use lib.ListN.{length, take, drop}
use Rattle.std.specs.Prelude.{Result}
use Rattle.refusals.specs.Refusals.{refusal_or_none}
use Rattle.refusals.specs.declared.Refusal.{Refusal}
use Rattle.wire.specs.Number.{part, splice}
use Rattle.wire.proofs.Place.{splice-none}
use Rattle.window_taking.specs.Turns.{answer_if, closing, direct_by, end_by, frame_at, from_by, length_at, packet_at, place_after, place_if, refused_by, turn_of, Closes, Lies}
use Rattle.window_taking.specs.declared.burst.Frame.{Frame}
use Rattle.window_taking.specs.declared.burst.Turn.{Turn}
use Rattle.window.proofs.Agreeing.{lent}
use Rattle.window_taking.specs.Keeping.{admitted_of, held_by, state_of, window_for}
use Rattle.window_taking.specs.declared.admitting.Admitted.{Admitted}

pub framed_is : (s : List ℕ) (at : ℕ) {n : ℕ} → n ≡ length_at s at → ◌≡◌ {A = Frame} (record { start = at + 2; size = n }) (frame_at false s at)
framed_is s at is = λ i. record { start = at + 2; size = is i }

module _ {single : Bool} {s : List ℕ} {at : ℕ} (lies : Lies single s at) where
  pub one_within : single ≡ true → at ≤ length s
  one_within e = subst (λ (b : Bool). (frame_at b s at).start ≤ length s) e lies.start

  pub two_within : single ≡ false → at + 2 ≤ length s
  two_within e = subst (λ (b : Bool). (frame_at b s at).start ≤ length s) e lies.start

  pub one_frame : single ≡ true → ◌≡◌ {A = Frame} (record { start = at; size = length s - at }) (frame_at single s at)
  one_frame e = ap (λ (b : Bool). frame_at b s at) (sym e)

  pub two_frame : single ≡ false → frame_at false s at ≡ frame_at single s at
  two_frame e = ap (λ (b : Bool). frame_at b s at) (sym e)

  module _ {f : Frame} (is : f ≡ frame_at single s at) where
    pub frame_stop : f.start + f.size ≤ length s
    frame_stop = subst (λ (g : Frame). g.start + g.size ≤ length s) (sym is) lies.within

    pub frame_lent : take (f.start + f.size - f.start) (drop f.start s) ≡ packet_at single s at
    frame_lent = lent s f.start f.size frame_stop ∙ ap (λ (g : Frame). part s g.start g.size) is

    pub began : (w : List ℕ) (next end left place : ℕ) {r : Result Admitted Refusal} → r ≡ admitted_of true (state_of w next end) (take (f.start + f.size - f.start) (drop f.start s))
        → {n from : ℕ} → n ≡ min f.size 12 → from ≡ from_by r (f.start + n)
        → ◌≡◌ {A = Turn} (record { begun = true; left = left; at = f.start + f.size; place = place; before = next; refusal = refused_by r; end = end_by end r; direct = direct_by r; from = from }) (turn_of (state_of w next end) single s at left place)
    began w next end left place {r} h {n} {from} head froms =
        let e : r ≡ admitted_of true (state_of w next end) (packet_at single s at) = h ∙ ap (admitted_of true (state_of w next end)) frame_lent in
        let m : n ≡ min (frame_at single s at).size 12 = head ∙ ap (λ (g : Frame). min g.size 12) is in
        let to : from ≡ from_by (admitted_of true (state_of w next end) (packet_at single s at)) ((frame_at single s at).start + min (frame_at single s at).size 12) = froms ∙ (λ i. from_by (e i) ((is i).start + m i)) in
        λ i.
        record {
          begun = true;
          left = left;
          at = (is i).start + (is i).size;
          place = place;
          before = next;
          refusal = refused_by (e i);
          end = end_by end (e i);
          direct = direct_by (e i);
          from = to i;
        }

    pub head_stop : {n : ℕ} → n ≡ min f.size 12 → f.start + n ≤ length s
    head_stop head = omega (arith, frame_stop, head)

    pub kept : (w : List ℕ) (next end : ℕ) {after : List ℕ} → after ≡ window_for (held_by true (state_of w next end) (take (f.start + f.size - f.start) (drop f.start s))).waiting next
        → after ≡ window_for (held_by true (state_of w next end) (packet_at single s at)).waiting next
    kept w next end h = h ∙ ap (λ (l : List ℕ). window_for (held_by true (state_of w next end) l).waiting next) frame_lent

-- an answer, where a packet is at hand
pub place_after_lem : (turn : Turn) → turn.begun ≡ true → turn.place + 4 ≡ place_after turn
place_after_lem turn e = sym (ap (λ (b : Bool). place_if b turn.place) e)

pub room_for : {turn : Turn} {next n : ℕ} → Closes turn next n → turn.begun ≡ true → turn.place + 4 ≤ n
room_for {turn} closes e = omega (arith, closes.room, place_after_lem turn e)

pub is_true : (b : Bool) → not b ≡ false → b ≡ true
is_true true e = refl
is_true false e = sym e

is_false : (b : Bool) → not b ≡ true → b ≡ false
is_false true e = sym e
is_false false e = refl

module _ (turn : Turn) (next : ℕ) (answers : List ℕ) where
  abbrev row : List ℕ
  row = (next - turn.before) ∷ refusal_or_none turn.refusal ∷ next ∷ turn.end ∷ []

  pub not_begun : not turn.begun ≡ true → answers ≡ splice answers turn.place (closing turn next)
  not_begun e = sym (ap (λ (b : Bool). splice answers turn.place (answer_if b row)) (is_false turn.begun e) ∙ splice-none answers turn.place)

  pub closed : turn.begun ≡ true → {after : List ℕ} → after ≡ splice answers turn.place row → after ≡ splice answers turn.place (closing turn next)
  closed e h = h ∙ sym (ap (λ (b : Bool). splice answers turn.place (answer_if b row)) e)
