-- Packets kept one after the other: what the window holds between two of them, and the answers that are to come.
-- Assumes nothing.
use mathlib.Core.Path.{◌≡◌, refl, ap, ap₂, ◌∙◌, sym, subst}
use mathlib.Core.Bool.{true, false}
use mathlib.Core.List.{List, [], ◌∷◌, ◌++◌}
use mathlib.Core.Logic.{by_cases}
use mathlib.Core.Option.{Option, none, some}
use Prim.Native.Nat.{ℕ, ◌+◌, ◌-◌, ◌*◌, ◌≤◌, ◌<◌}
use native.Mathlib.Decide.{dec_lt}
use native.Mathlib.Omega.{arith}
use lib.ListN.{length, take, drop}
use Rattle.std.specs.Prelude.{Result, None}
use Rattle.refusals.specs.Refusals.{refusal_in}
use Rattle.refusals.specs.declared.Refusal.{Refusal}
use Rattle.wire.specs.Number.{Bytes, splice}
use Rattle.wire.proofs.Place.{length-splice, part_bytes, splice_next, splice-none}
use Rattle.merge.specs.State.{Feed, Packet, State, copy_of, first_there, keep, kept_if}
use Rattle.merge.proofs.Clauses.{kept_new, kept_none, kept_old}
use Rattle.merge.proofs.Copies.{copy_none, copy_told, told_yes}
use Rattle.window_taking.specs.Keeping.{Known, Neat, admitted_of, fresh_by, held_by, kept_all, kept_by, state_of, waiting_of, window_for}
use Rattle.window_taking.specs.Taking.{judge}
use Rattle.window_taking.specs.Turns.{Lies, at_start, behind, done_in, end_by, end_from, frame_at, packet_at, packets_from}
use Rattle.window_taking.specs.declared.admitting.Admitted.{Admitted}
use Rattle.window_taking.specs.declared.burst.Frame.{Frame}
use Rattle.window_taking.specs.declared.burst.Turn.{Turn}
use Rattle.window_taking.proofs.Accepted.{overnight-judged}
use Rattle.window_taking.proofs.Answered.{end_told, fresh_in_answer, fresh_told, refusal_told}
use Rattle.window_taking.proofs.Following.{Another, Ended, another, ended}
use Rattle.window_taking.proofs.Frames.{frame_lent}
use Rattle.window_taking.proofs.Passing.{passes}
use Rattle.window_taking.proofs.Windows.{Within, neat_for, waiting_for, within_neat}
use Rattle.window_keeping.specs.Keeping.{Hands, kept_row, kept_rows, turn_after}

-- ---- one packet

-- what a packet leaves in the window is whole, within the window and below end
module _ {w : List ℕ} {next end : ℕ} (neat : Neat w next) (known : Known w next end) (p : List ℕ) (bytes : Bytes p) where
  abbrev x : State (List ℕ) (Unit {0})
  x = state_of w next end

  feed : Feed (List ℕ) (Unit {0})
  feed = record { apply = λ t k m. tt }

  record Left (y : State (List ℕ) (Unit {0})) : Type 0 where
    within : Within y.waiting next
    below : (k : ℕ) (m : List ℕ) → y.waiting k ≡ some m → k < y.end
    stands : y.next ≡ next

  either : (o o' : Option (List ℕ)) {m : List ℕ} {P : Type 0} → (o ≡ some m → P) → (o' ≡ some m → P) → first_there o o' ≡ some m → P
  either none o' one other e = other e
  either (some a) o' one other e = one e

  kept_left : (o : Option (Packet (List ℕ))) → judge x p ≡ o → Left (kept_if x o)
  unfolding kept_if keep
  kept_left none e = record { within = within_neat neat; below = known.below; stands = refl }
  kept_left (some q) e =
      let passed = passes x p bytes e in
      record {
        within =
            record {
              low = λ k l. kept_old x q k l ∙ (within_neat neat).low k l;
              high = λ k l. kept_none x q k (copy_none q k (λ c. omega (arith, (overnight-judged feed).fits x p q e k c))) ∙ (within_neat neat).high k l;
              whole =
                  λ k m is.
                  by_cases (dec_lt k next)
                  (λ l. neat.whole k m (sym (kept_old x q k l) ∙ is))
                  (λ l. either (waiting_of w next k) (copy_of q k) (λ f. neat.whole k m f) (λ f. passed.whole k m f) (sym (kept_new x q k (omega arith)) ∙ is));
            };
        below =
            λ k m is.
            by_cases (dec_lt k next)
            (λ l. omega (arith, known.below k m (sym (kept_old x q k l) ∙ is)))
            (λ l.
            either (waiting_of w next k) (copy_of q k)
            (λ f. omega (arith, known.below k m f))
            (λ f. omega (arith, (told_yes (copy_told q k) f).high))
            (sym (kept_new x q k (omega arith)) ∙ is));
        stands = refl;
      }

  left_by : Left (kept_by x p)
  left_by = kept_left (judge x p) refl

  module _ {w' : List ℕ} (after : w' ≡ window_for (kept_by x p).waiting next) where
    holds : waiting_of w' next ≡ (kept_by x p).waiting
    holds = ap (λ (l : List ℕ). waiting_of l next) after ∙ waiting_for left_by.within

    pub neat_after : Neat w' next
    neat_after = subst (λ (l : List ℕ). Neat l next) (sym after) (neat_for left_by.within neat.top)

    pub known_after : {end' : ℕ} → end' ≡ (kept_by x p).end → Known w' next end'
    known_after ends = record { below = λ k m is. omega (arith, ends, left_by.below k m (ap (λ (f : ℕ → Option (List ℕ)). f k) (sym holds) ∙ is)) }

    -- the window is that of the session with the packet kept
    pub state_after : {end' : ℕ} → end' ≡ (kept_by x p).end → state_of w' next end' ≡ kept_by x p
    state_after ends = λ i. record { next = sym left_by.stands i; end = ends i; waiting = holds i; tables = tt }

-- the answer and the window, by what admitting it says
module _ {s : List ℕ} (turn : Turn) (w : List ℕ) (next : ℕ) (lies : Lies false s turn.at) {f : Frame} (is : f ≡ frame_at false s turn.at) {r : Result Admitted Refusal}
    (told : r ≡ admitted_of false (state_of w next turn.end) (take (f.start + f.size - f.start) (drop f.start s))) where
  abbrev before : State (List ℕ) (Unit {0})
  before = state_of w next turn.end

  here : r ≡ admitted_of false before (packet_at false s turn.at)
  here = told ∙ ap (admitted_of false before) (frame_lent lies is)

  end_is : end_by turn.end r ≡ (kept_by before (packet_at false s turn.at)).end
  end_is = ap (end_by turn.end) here ∙ end_told false before (packet_at false s turn.at)

  pub row_told : {n : ℕ} → n ≡ refusal_in r → (fresh_in_answer r ∷ n ∷ next ∷ end_by turn.end r ∷ []) ≡ kept_row before (packet_at false s turn.at)
  row_told number =
      let fresh : fresh_in_answer r ≡ fresh_by before (packet_at false s turn.at) = ap fresh_in_answer here ∙ fresh_told before (packet_at false s turn.at) in
      let refusal = number ∙ ap refusal_in here ∙ refusal_told false before (packet_at false s turn.at) in
      λ i. fresh i ∷ refusal i ∷ next ∷ end_is i ∷ []

  pub turn_told : ◌≡◌ {A = Turn} (record { begun = false; left = turn.left - 1; at = f.start + f.size; place = turn.place + 4; before = next; refusal = None; end = end_by turn.end r; direct = 0; from = 0 }) (turn_after before s turn)
  turn_told = λ i. record { begun = false; left = turn.left - 1; at = (is i).start + (is i).size; place = turn.place + 4; before = next; refusal = None; end = end_is i; direct = 0; from = 0 }

  pub window_told : {after : List ℕ} → after ≡ window_for (held_by false (state_of w next turn.end) (take (f.start + f.size - f.start) (drop f.start s))).waiting next
      → after ≡ window_for (kept_by (state_of w next turn.end) (packet_at false s turn.at)).waiting next
  unfolding held_by
  window_told h = h ∙ ap (λ (l : List ℕ). window_for (kept_by (state_of w next turn.end) l).waiting next) (frame_lent lies is)

-- ---- between two packets

abbrev rest_of : List ℕ → Turn → List (List ℕ)
rest_of s turn = packets_from false turn.left turn.at s

pub record Going (w₀ s answers₀ : List ℕ) (next end₀ count : ℕ) (w answers : List ℕ) (turn : Turn) : Type 0 where
  pub neat : Neat w next
  pub known : Known w next turn.end
  pub within : turn.at ≤ length s
  pub left : turn.left ≤ count
  pub room : turn.place + 4 * turn.left ≤ length answers
  pub long : length answers ≡ length answers₀
  pub rest : kept_all (state_of w₀ next end₀) (packets_from false count 0 s) ≡ kept_all (state_of w next turn.end) (rest_of s turn)
  pub rows : splice answers₀ 0 (kept_rows (state_of w₀ next end₀) (packets_from false count 0 s)) ≡ splice answers turn.place (kept_rows (state_of w next turn.end) (rest_of s turn))
  pub taken : length (packets_from false count 0 s) + turn.left ≡ count + length (rest_of s turn)
  pub stop : end_from false count 0 s ≡ end_from false turn.left turn.at s

pub going_start : {w answers : List ℕ} {next end count : ℕ} (s : List ℕ) → Neat w next → Known w next end → 4 * count ≤ length answers → {turn : Turn} → turn ≡ at_start next end count
    → Going w s answers next end count w answers turn
going_start {w} {answers} {next} {end} {count} s neat known room e =
    subst (Going w s answers next end count w answers) (sym e)
    (record { neat = neat; known = known; within = omega arith; left = omega arith; room = omega arith; long = refl; rest = refl; rows = refl; taken = omega arith; stop = refl })

module _ {w₀ s answers₀ : List ℕ} {next end₀ count : ℕ} {w answers : List ℕ} {turn : Turn} (g : Going w₀ s answers₀ next end₀ count w answers turn) where
  -- another one
  module _ (other : done_in false s turn ≡ false) where
    follows : Another false s turn
    follows = another false s turn other

    pub hands : Hands s turn (length answers)
    hands = record { left = follows.some; lies = follows.lies; room = omega (arith, g.room, follows.some) }

    abbrev y : State (List ℕ) (Unit {0})
    y = state_of w next turn.end

    abbrev p : List ℕ
    p = packet_at false s turn.at

    module _ (bytes : Bytes s) {turn' : Turn} {w' answers' : List ℕ} (turned : turn' ≡ turn_after y s turn) (put : answers' ≡ splice answers turn.place (kept_row y p)) (after : w' ≡ window_for (kept_by y p).waiting next) where
      part_of : Bytes p
      part_of = part_bytes s (frame_at false s turn.at).start (frame_at false s turn.at).size bytes

      same_length : length answers' ≡ length answers
      same_length = ap length put ∙ length-splice answers turn.place (kept_row y p) hands.room

      rests : rest_of s turn ≡ p ∷ rest_of s turn'
      rests = follows.packets ∙ ap (λ (l : List (List ℕ)). p ∷ l) (λ i. packets_from false (sym turned i).left (sym turned i).at s)

      states : kept_by y p ≡ state_of w' next turn'.end
      states = sym (state_after g.neat g.known p part_of after (ap (λ (t : Turn). t.end) turned))

      pub going_next : Going w₀ s answers₀ next end₀ count w' answers' turn'
      unfolding kept_all kept_rows
      going_next =
          let lefts : turn'.left ≡ turn.left - 1 = ap (λ (t : Turn). t.left) turned in
          let places : turn'.place ≡ turn.place + 4 = ap (λ (t : Turn). t.place) turned in
          let ats : turn'.at ≡ behind false s turn.at = ap (λ (t : Turn). t.at) turned in
          record {
            neat = neat_after g.neat g.known p part_of after;
            known = known_after g.neat g.known p part_of after (ap (λ (t : Turn). t.end) turned);
            within = omega (arith, follows.lies.within);
            left = omega (arith, g.left);
            room = omega (arith, g.room, follows.some, same_length);
            long = same_length ∙ g.long;
            rest = g.rest ∙ ap (kept_all y) rests ∙ ap (λ (z : State (List ℕ) (Unit {0})). kept_all z (rest_of s turn')) states;
            rows =
                g.rows
                ∙ ap (λ (l : List (List ℕ)). splice answers turn.place (kept_rows y l)) rests
                ∙ ap (λ (z : State (List ℕ) (Unit {0})). splice answers turn.place (kept_row y p ++ kept_rows z (rest_of s turn'))) states
                ∙ sym (splice_next answers turn.place (kept_row y p) (kept_rows (state_of w' next turn'.end) (rest_of s turn')) (omega (arith, hands.room)))
                ∙ ap₂ (λ (l : List ℕ) (n : ℕ). splice l n (kept_rows (state_of w' next turn'.end) (rest_of s turn'))) (sym put) (sym places);
            taken = omega (arith, g.taken, follows.some, ap length rests, lefts);
            stop = g.stop ∙ follows.end ∙ (λ i. end_from false (sym lefts i) (sym ats i) s);
          }

  -- the last one
  module _ (last : done_in false s turn ≡ true) where
    none_follows : Ended false s turn
    none_follows = ended false s turn last

    all_kept : kept_all (state_of w₀ next end₀) (packets_from false count 0 s) ≡ state_of w next turn.end
    unfolding kept_all
    all_kept = g.rest ∙ ap (kept_all (state_of w next turn.end)) none_follows.packets

    pub window_end : w ≡ window_for (kept_all (state_of w₀ next end₀) (packets_from false count 0 s)).waiting next
    window_end = g.neat.same ∙ ap (λ (z : State (List ℕ) (Unit {0})). window_for z.waiting next) (sym all_kept)

    pub end_end : turn.end ≡ (kept_all (state_of w₀ next end₀) (packets_from false count 0 s)).end
    end_end = ap (λ (z : State (List ℕ) (Unit {0})). z.end) (sym all_kept)

    pub rows_end : answers ≡ splice answers₀ 0 (kept_rows (state_of w₀ next end₀) (packets_from false count 0 s))
    unfolding kept_rows
    rows_end = sym (g.rows ∙ ap (λ (l : List (List ℕ)). splice answers turn.place (kept_rows (state_of w next turn.end) l)) none_follows.packets ∙ splice-none answers turn.place)

    pub taken_end : count - turn.left ≡ length (packets_from false count 0 s)
    taken_end = omega (arith, g.taken, g.left, ap length none_follows.packets)

    pub at_end : turn.at ≡ end_from false count 0 s
    at_end = sym (g.stop ∙ none_follows.end)
