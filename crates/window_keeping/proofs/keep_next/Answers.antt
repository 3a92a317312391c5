-- The next packet judged, kept and answered.
-- Assumes nothing.
use mathlib.Core.Path.{◌≡◌, ◌∙◌, ap, sym}
use mathlib.Core.Bool.{false}
use mathlib.Core.List.{[], ◌∷◌}
use Prim.Native.Nat.{ℕ, ◌-◌, ◌+◌}
use native.Mathlib.Omega.{arith}
use Rattle.std.specs.Prelude.{Result, None}
use Rattle.refusals.specs.declared.Refusal.{Refusal}
use Rattle.wire.specs.Number.{splice}
use Rattle.window_taking.specs.Turns.{end_by}
use Rattle.window_taking.specs.declared.admitting.Admitted.{Admitted}
use Rattle.window_taking.specs.declared.burst.Turn.{Turn}
use Rattle.window_taking.proofs.Answered.{fresh_in_answer}
use Rattle.window_taking.proofs.Frames.{frame_stop}
use Rattle.window_keeping.proofs.Bursts.{row_told, turn_told, window_told}
use Rattle.window_keeping.proofs.keep_next.Goals as goal
use Rattle.window_keeping.proofs.keep_next.Goals.{in-Ok, in-Err}

-- what an answer says of both
abbrev both : ℕ → Result Admitted Refusal → ℕ × ℕ
both end r = (fresh_in_answer r, end_by end r)

-- the turn behind a packet, by where that ends and by end
abbrev behind : Turn → ℕ → ℕ → ℕ → Turn
behind turn next at end = record { begun = false; left = turn.left - 1; at = at; place = turn.place + 4; before = next; refusal = None; end = end; direct = 0; from = 0 }

pub returns : goal.returns
returns c =
    let window = c.args.window.now in
    let next = c.args.next in
    let turn = c.args.turn in
    let answers = c.args.answers.now in
    let lies = c.requires.hands.lies in
    let framed = c.framed-frame.ensures in
    let admitted = c.admit-admitted.ensures in
    let pair : c.match-admitted.fresh ≡ both turn.end c.admit-admitted.result =
    elim c.match-admitted.branch [
      | in-Ok w ↦ w.fresh-is ∙ sym (ap (both turn.end) w.in-Ok.is)
      | in-Err w ↦ w.fresh-is ∙ sym (ap (both turn.end) w.in-Err.is)
    ] in
    record {
      turn =
          ap (λ (p : ℕ × ℕ). behind turn next (c.framed-frame.result.start + c.framed-frame.result.size) p.1) pair
          ∙ turn_told turn window next lies framed admitted.answer;
      answers =
          c.put_answer.ensures
          ∙ ap (λ (p : ℕ × ℕ). splice answers turn.place (p.0 ∷ c.number_in-refusal.result ∷ next ∷ p.1 ∷ [])) pair
          ∙ ap (splice answers turn.place) (row_told turn window next lies framed admitted.answer c.number_in-refusal.ensures);
      kept = window_told turn window next lies framed admitted.answer admitted.kept;
    }

pub framed-frame-requires : goal.framed-frame-requires
framed-frame-requires c = c.requires.hands.lies.start

pub overflow_add-behind : goal.overflow_add-behind
overflow_add-behind c = omega (arith, frame_stop c.requires.hands.lies c.framed-frame.ensures)

pub slice_bounds-admit-end : goal.slice_bounds-admit-end
slice_bounds-admit-end c = frame_stop c.requires.hands.lies c.framed-frame.ensures

pub admit-admitted-requires : goal.admit-admitted-requires
admit-admitted-requires c = record { neat = c.requires.neat; known = c.requires.known }

pub put_answer-requires : goal.put_answer-requires
put_answer-requires c = c.requires.hands.room

pub overflow_sub-result : goal.overflow_sub-result
overflow_sub-result c = omega (arith, c.requires.hands.left)

pub overflow_add-result : goal.overflow_add-result
overflow_add-result c = omega (arith, c.requires.hands.room)
