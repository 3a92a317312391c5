-- The calls over the engine: an opening, one packet, a burst, and what is missing.
-- Assumes nothing.
use mathlib.Core.Path.{◌≡◌, refl, ap, ap₂, ◌∙◌, sym, subst}
use mathlib.Core.Bool.{Bool, true, false, cond, not, ◌&&◌}
use mathlib.Core.List.{List, [], ◌∷◌, ◌++◌}
use mathlib.Core.Option.{Option, none, some}
use Prim.Native.Nat.{ℕ, zero, suc, ◌+◌, ◌-◌, ◌*◌, ◌/◌, ◌%◌, ◌≤◌, ◌<◌, min, max}
use native.Mathlib.Omega.{arith}
use borrow.Author.Tests.{le-ltb, leb-false, leb-true, lt-ltb}
use lib.Dec.{eqb, leb, ltb}
use lib.ListN.{length, get_or, replicate, set}
use Rattle.std.specs.Prelude.{Result, Ok, Err}
use Rattle.refusals.specs.Refusals.{answered, number_of}
use Rattle.refusals.specs.declared.Refusal.{Refusal}
use Rattle.refusals.specs.declared.Refusal.TheVariants.{NoRoom}
use Rattle.refusals.proofs.Numbers.{answered_err}
use Rattle.wire.specs.Number.{Bytes, part, splice}
use Rattle.wire.proofs.Place.{part-all, part_bytes, splice-none}
use Rattle.merge.specs.State.{apply_some, apply_up_to, applying, call_all, call_one, is_there, lowest_from, lowest_in, opened, take_all, take_one}
use Rattle.merge.proofs.Demand3.{apply_some_moves}
use Rattle.merge.proofs.Lowest.{lowest_in_lem}
use Rattle.merge.proofs.Window.{next_end}
use Rattle.packet.specs.Header as header
use Rattle.packet.specs.Header.{Test, decided, flag_tests, header_in, header_tests}
use Rattle.packet.specs.Judging.{body_tests, packet_tests, unless_heartbeat}
use Rattle.packet.specs.Walk.{walk_from}
use Rattle.window.specs.Runs as runs
use Rattle.window.specs.Runs.{IsRun, closed, first_from, limit_of, missing_in, run_from, runs_from}
use Rattle.window.specs.Window.{place_of, places_from, size_at, start_of, waits_at, window_of, zeros}
use Rattle.window.specs.declared.missing.Gap.{Gap}
use Rattle.window.proofs.FirstNumber.{Between, first_between}
use Rattle.book.specs.Tables.{fresh, no_inside, no_order, places}
use Rattle.book.specs.declared.tables.OpeningRule.{OpeningRule}
use Rattle.book.specs.declared.tables.Order.{Order}
use Rattle.book_index.specs.Chains.{index_of}
use Rattle.book_room.specs.Room.{parts_of, rule_number}
use Rattle.book_room.specs.Room.{rows_of as inside_rows}
use Rattle.window_taking.specs.Keeping.{waiting_of, window_for}
use Rattle.window_taking.specs.Taking.{take_tests, wait_tests}
use Rattle.window_taking.specs.Turns.{behind, cut_at, end_from, frame_at, packet_at, packets_from, packets_in}
use Rattle.window_taking.proofs.Accepted.{overnight-judged}
use Rattle.window_taking.proofs.Windows.{waits_place}
use Rattle.session.specs.Meaning.{AllBytes, Held, Ruled, Meaning, end_in, feed, held, next_in, overnight, rep, view}
use Rattle.book_index.proofs.Laws.{index_empty}
use Rattle.session.specs.Asking.{gap_from, gaps_of, lacks, limit, line_in, missing, placed}
use Rattle.session.specs.Bursts.{answer_of, applied_by, answers_after, burst_of, bytes_of, count_if, count_of, refusal_of, row_of, rows_of}
use Rattle.session.specs.Bursts.{Runs}
use Rattle.session.proofs.States.{ruled_calls, ruled_more, ruled_rule, stands}

-- ---- an opening

replicate_more : (a b x : ℕ) → replicate a x ++ replicate b x ≡ replicate (a + b) x
replicate_more zero b x = let e : 0 + b ≡ b = omega arith in ap (λ (n : ℕ). replicate n x) (sym e)
replicate_more (suc a) b x = let e : suc (a + b) ≡ suc a + b = omega arith in ap (λ (l : List ℕ). x ∷ l) (replicate_more a b x) ∙ ap (λ (n : ℕ). replicate n x) e

all_free : (p n : ℕ) → replicate (n * 128) 0 ≡ places_from (λ i. none) p n
unfolding places_from place_of zeros
all_free p zero = refl
all_free p (suc n) =
    let e : suc n * 128 ≡ 128 + n * 128 = omega arith in
    ap (λ (k : ℕ). replicate k 0) e ∙ sym (replicate_more 128 (n * 128) 0) ∙ ap (λ (l : List ℕ). replicate 128 0 ++ l) (all_free (suc p) n)

-- the numbers of an opened room: next and end, and no other
zeros_more : (a b : ℕ) {l : List ℕ} → l ≡ replicate b 0 → replicate a 0 ++ l ≡ replicate (a + b) 0
zeros_more a b e = ap (λ (k : List ℕ). replicate a 0 ++ k) e ∙ replicate_more a b 0

pub opened_with : (rule : OpeningRule) (n : ℕ) {number : ℕ} {order : Order} {room window : List ℕ} → number ≡ rule_number rule → order ≡ no_order → room ≡ replicate 2308 0 → window ≡ replicate 32768 0
    → held (record { orders = replicate 256 order }) (set (set (set room 0 n) 1 n) 8 number) window ≡ rep (opened (fresh rule) n)
unfolding opened window_for window_of places parts_of inside_rows
opened_with rule n {number} {order} {room} {window} u o r w =
    let rows : inside_rows (replicate 64 no_inside) ≡ replicate 384 0 = refl in
    let backs : replicate 64 0 ++ inside_rows (replicate 64 no_inside) ≡ replicate 448 0 = zeros_more 64 384 rows in
    let fronts : replicate 64 0 ++ (replicate 64 0 ++ inside_rows (replicate 64 no_inside)) ≡ replicate 512 0 = zeros_more 64 448 backs in
    let symbols : index_of [] ++ (replicate 64 0 ++ (replicate 64 0 ++ inside_rows (replicate 64 no_inside))) ≡ replicate 1277 0 = ap (λ (l : List ℕ). l ++ (replicate 64 0 ++ (replicate 64 0 ++ inside_rows (replicate 64 no_inside)))) index_empty ∙ zeros_more 765 512 fronts in
    let index : index_of [] ++ (index_of [] ++ (replicate 64 0 ++ (replicate 64 0 ++ inside_rows (replicate 64 no_inside)))) ≡ replicate 2042 0 = ap (λ (l : List ℕ). l ++ (index_of [] ++ (replicate 64 0 ++ (replicate 64 0 ++ inside_rows (replicate 64 no_inside))))) index_empty ∙ zeros_more 765 1277 symbols in
    let keys : replicate 256 0 ++ (index_of [] ++ (index_of [] ++ (replicate 64 0 ++ (replicate 64 0 ++ inside_rows (replicate 64 no_inside))))) ≡ replicate 2298 0 = zeros_more 256 2042 index in
    λ i. held (record { orders = replicate 256 (o i) }) ((ap₂ (λ (l : List ℕ) (k : ℕ). set (set (set l 0 n) 1 n) 8 k) r u ∙ ap (λ (l : List ℕ). n ∷ n ∷ 0 ∷ 0 ∷ 0 ∷ 0 ∷ 0 ∷ 0 ∷ rule_number rule ∷ 0 ∷ l) (sym keys)) i) ((w ∙ all_free 0 256) i)

pub rule_of : {s t : Held} → s ≡ t → Ruled t → Ruled s
rule_of e r = subst Ruled (sym e) r

-- ---- one packet

-- the numbers of the tests are at most this
abbrev pub few : ℕ → List Test → Bool
few top [] = true
few top (t ∷ ts) = leb t.1.0 top && few top ts

pub both : (a b : Bool) → (a && b) ≡ true → (a ≡ true) × (b ≡ true)
both true b h = (refl, h)
both false b h = absurd (omega (arith, ap {B = ℕ} (λ (c : Bool). cond c 1 0) h))

small_by : (top : ℕ) (b : Bool) (t d : ℕ × ℕ) → t.0 ≤ top → d.0 ≤ top → (cond b t d).0 ≤ top
small_by top true t d h g = h
small_by top false t d h g = g

small : (top : ℕ) (ts : List Test) → few top ts ≡ true → (decided ts).0 ≤ top
small top [] h = omega arith
small top (t ∷ ts) h = let b = both (leb t.1.0 top) (few top ts) h in small_by top t.0 t.1 (decided ts) (leb-true t.1.0 top b.0) (small top ts b.1)

few_more : (top : ℕ) (xs ys : List Test) → few top xs ≡ true → few top ys ≡ true → few top (xs ++ ys) ≡ true
few_more top [] ys h g = g
few_more top (x ∷ xs) ys h g = let b = both (leb x.1.0 top) (few top xs) h in ap₂ ◌&&◌ b.0 (few_more top xs ys b.1 g)

few_unless : (top : ℕ) (b : Bool) (ts : List Test) → few top ts ≡ true → few top (unless_heartbeat b ts) ≡ true
few_unless top true ts h = refl
few_unless top false ts h = h

-- 1 to 8 without a session, and 1 to 10 with one
packet_few : (top : ℕ) (s : List ℕ) → few top (header_tests s) ≡ true → few top (body_tests (walk_from (header_in s).messages 12 s) (header_in s).seq (header_in s).messages) ≡ true → few top (packet_tests s) ≡ true
unfolding packet_tests
packet_few top s h g =
    few_more top (header_tests s) (unless_heartbeat (header.heartbeat (header_in s).flag) (body_tests (walk_from (header_in s).messages 12 s) (header_in s).seq (header_in s).messages)) h
    (few_unless top (header.heartbeat (header_in s).flag) (body_tests (walk_from (header_in s).messages 12 s) (header_in s).seq (header_in s).messages) g)

pub packet_small : (s : List ℕ) → few 8 (packet_tests s) ≡ true
unfolding header_tests flag_tests body_tests
packet_small s = packet_few 8 s refl refl

pub refusal_small : (x : Meaning) (s : List ℕ) → refusal_of x s ≤ 10
unfolding take_tests header_tests flag_tests body_tests
refusal_small x s =
    small 10 (take_tests x s)
    (few_more 10 (packet_tests s) (unless_heartbeat (header.heartbeat (header_in s).flag) (wait_tests x s)) (packet_few 10 s refl refl)
    (few_unless 10 (header.heartbeat (header_in s).flag) (wait_tests x s) refl))

pub one_packet : (s : List ℕ) → packets_from true 1 0 s ≡ s ∷ []
unfolding packets_from
one_packet s =
    let e : length s - 0 ≡ length s = omega arith in
    ap (λ (b : Bool). cond b [] (part s 0 (length s - 0) ∷ [])) (le-ltb (length s) (0 + (length s - 0)) (omega arith))
    ∙ ap (λ (l : List ℕ). l ∷ []) (ap (part s 0) e ∙ part-all s)

pub one_runs : Runs 1 4
one_runs = record { room = omega arith; big = omega arith }

pub no_runs : Runs 0 1
no_runs = record { room = omega arith; big = omega arith }

module _ (x : Meaning) (s : List ℕ) {l : List ℕ} (rows : l ≡ splice (0 ∷ 0 ∷ 0 ∷ 0 ∷ []) 0 (rows_of (apply_up_to feed 0 x) (packets_from true 1 0 s))) where
  four : l ≡ row_of x s
  unfolding splice rows_of apply_up_to
  four = rows ∙ ap (λ (ps : List (List ℕ)). splice (0 ∷ 0 ∷ 0 ∷ 0 ∷ []) 0 (rows_of x ps)) (one_packet s)

  pub told_refusal : get_or l 1 0 ≤ 14
  told_refusal = subst (λ (k : List ℕ). get_or k 1 0 ≤ 14) (sym four) (omega (arith, refusal_small x s))

  pub taken_is : {after : Held} → after ≡ rep (take_all overnight (apply_up_to feed 0 x) (packets_from true 1 0 s)) → after ≡ rep (take_one overnight x s)
  unfolding take_all apply_up_to
  taken_is e = e ∙ ap (λ (ps : List (List ℕ)). rep (take_all overnight x ps)) (one_packet s)

  pub answer_is : {answer : Result ℕ Refusal} → answer ≡ answered (get_or l 1 0) (get_or l 0 0) → answer ≡ answer_of x s
  answer_is e = e ∙ ap (λ (k : List ℕ). answered (get_or k 1 0) (get_or k 0 0)) four

-- by its number a refusal is told
pub answer_some : (applied number : ℕ) {refusal : Refusal} → number_of refusal ≡ number → Err refusal ≡ answered number applied
answer_some applied number {refusal} e = sym (answered_err applied refusal) ∙ ap (λ (n : ℕ). answered n applied) e

-- ---- a burst

pub packets_bytes : (single : Bool) (n at : ℕ) (s : List ℕ) → Bytes s → AllBytes (packets_from single n at s)
unfolding packets_from
packets_bytes single zero at s bytes = tt
packets_bytes single (suc n) at s bytes = go (cut_at single s at) (packets_bytes single n (behind single s at) s bytes)
  where
    go : (b : Bool) → AllBytes (packets_from single n (behind single s at) s) → AllBytes (cond b [] (packet_at single s at ∷ packets_from single n (behind single s at) s))
    go true more = tt
    go false more = (part_bytes s (frame_at single s at).start (frame_at single s at).size bytes, more)

-- the answers fit, and so many are taken; or they do not, and none is
module _ (x : Meaning) (s : List ℕ) (answers : List ℕ) (most : ℕ) {fits : Bool} (test : fits ≡ leb most (length answers / 4)) {due : ℕ} (dues : due ≡ cond fits most 0) where
  short_by_lem : (b : Bool) → leb most (length answers / 4) ≡ b → ltb (length answers) (4 * most) ≡ not b
  short_by_lem true e = le-ltb (length answers) (4 * most) (omega (arith, leb-true most (length answers / 4) e))
  short_by_lem false e = lt-ltb (length answers) (4 * most) (omega (arith, leb-false most (length answers / 4) e))

  pub short : ltb (length answers) (4 * most) ≡ not fits
  short = short_by_lem (leb most (length answers / 4)) refl ∙ ap not (sym test)

  due_by : (b : Bool) → fits ≡ b → due ≡ cond b most 0
  due_by b e = dues ∙ ap (λ (c : Bool). cond c most 0) e

  pub burst_runs : length answers ≤ 18446744073709551615 → Runs due (length answers)
  burst_runs big = go fits refl
    where
      go : (b : Bool) → fits ≡ b → Runs due (length answers)
      go true e = record { room = omega (arith, due_by true e, leb-true most (length answers / 4) (sym test ∙ e)); big = big }
      go false e = record { room = omega (arith, due_by false e); big = big }

  -- what comes of those that are due, and where none is what stands there already
  pub chosen : {A : Type 0} (after : ℕ → A) {none : A} → after 0 ≡ none → after due ≡ cond (ltb (length answers) (4 * most)) none (after most)
  chosen {A} after {none} nothing = go fits refl
    where
      go : (b : Bool) → fits ≡ b → after due ≡ cond (ltb (length answers) (4 * most)) none (after most)
      go true e = ap after (due_by true e) ∙ sym (ap (λ (c : Bool). cond c none (after most)) (short ∙ ap not e))
      go false e = ap after (due_by false e) ∙ nothing ∙ sym (ap (λ (c : Bool). cond c none (after most)) (short ∙ ap not e))

  pub burst_is : {after : Held} → after ≡ rep (take_all overnight (apply_up_to feed 0 x) (packets_in due s)) → after ≡ rep (burst_of x s most (length answers))
  unfolding burst_of take_all packets_from apply_up_to
  burst_is is = is ∙ ap rep (chosen (λ (n : ℕ). take_all overnight x (packets_in n s)) refl)

  pub bytes_are : {at : ℕ} → at ≡ end_from false due 0 s → at ≡ bytes_of s most (length answers)
  unfolding bytes_of end_from
  bytes_are is = is ∙ chosen (λ (n : ℕ). end_from false n 0 s) refl

  pub rows_are : {after : List ℕ} → after ≡ splice answers 0 (rows_of (apply_up_to feed 0 x) (packets_in due s)) → after ≡ answers_after x s most answers
  unfolding answers_after rows_of packets_from apply_up_to
  rows_are is = is ∙ chosen (λ (n : ℕ). splice answers 0 (rows_of x (packets_in n s))) (splice-none answers 0)

  pub count-is : {taken : ℕ} {told : Result ℕ Refusal} → taken ≡ length (packets_in due s) → told ≡ count_if fits taken → told ≡ count_of s most (length answers)
  unfolding count_of
  count-is {taken} {told} is counts = go fits refl
    where
      go : (b : Bool) → fits ≡ b → told ≡ cond (ltb (length answers) (4 * most)) (Err NoRoom) (Ok (length (packets_in most s)))
      go true e = counts ∙ (λ i. count_if (e i) (is i)) ∙ ap (λ (n : ℕ). Ok (length (packets_in n s))) (due_by true e) ∙ sym (ap (λ (b : Bool). cond b (Err NoRoom) (Ok (length (packets_in most s)))) (short ∙ ap not e))
      go false e = counts ∙ ap (λ (b : Bool). count_if b taken) e ∙ sym (ap (λ (b : Bool). cond b (Err NoRoom) (Ok (length (packets_in most s)))) (short ∙ ap not e))

pub rule_packets : {session : Held} → Ruled session → (single : Bool) (s : List ℕ) (n : ℕ) → Bytes s → {after : Held} → after ≡ rep (take_all overnight (apply_up_to feed 0 (view session)) (packets_from single n 0 s)) → Ruled after
unfolding apply_up_to
rule_packets rule single s n bytes e = rule_of e (ruled_more rule (packets_from single n 0 s) (packets_bytes single n 0 s bytes))

-- ---- applying

-- with no packet, what is due is all that is done
module _ {session : Held} (rule : Ruled session) (s : List ℕ) (count : ℕ) {due : ℕ} (dues : due ≡ min count 256) where
  pub some_applied : {after : Held} → after ≡ rep (take_all overnight (apply_up_to feed due (view session)) (packets_from false 0 0 s)) → after ≡ rep (apply_some overnight count (view session))
  unfolding take_all packets_from apply_some
  some_applied is = is ∙ ap (λ (n : ℕ). rep (apply_up_to feed n (view session))) dues

  pub some_rule : {after : Held} → after ≡ rep (take_all overnight (apply_up_to feed due (view session)) (packets_from false 0 0 s)) → Ruled after
  unfolding call_all call_one
  some_rule is = rule_of (some_applied is) (ruled_calls rule (applying count ∷ []) tt)

  -- next moves on, and by so many
  next_moves : (view session).next ≤ (apply_some overnight count (view session)).next
  next_moves = omega (arith, apply_some_moves overnight rule.number (overnight-judged feed) count (ruled_rule rule) (lowest_in_lem (ruled_rule rule)))

  module _ {after : Held} (is : after ≡ rep (take_all overnight (apply_up_to feed due (view session)) (packets_from false 0 0 s))) where
    pub next_after : next_in after.room ≡ (apply_some overnight count (view session)).next
    unfolding parts_of
    next_after = ap (λ (h : Held). next_in h.room) (some_applied is)

    pub not-below : next_in session.room ≤ next_in after.room
    not-below = omega (arith, next_moves, next_after)

    pub counted : next_in after.room - next_in session.room ≡ applied_by (view session) count
    counted = ap (λ (n : ℕ). n - next_in session.room) next_after

-- ---- what is missing

-- next and end in the room
pub record Numbered (room : List ℕ) : Type 0 where
  pub order : next_in room ≤ end_in room
  pub top : end_in room ≤ 4294967296

pub numbered : {s : Held} → Ruled s → Numbered s.room
unfolding parts_of
numbered r =
    let h = stands r in
    subst (λ (z : Held). Numbered z.room) (sym h.same) (record { order = next_end h.good.inv; top = h.good.top })

lacks_by : (b : Bool) (m : List ℕ) → lacks (cond b none (some m)) ≡ b
lacks_by true m = refl
lacks_by false m = refl

missing-same : (w : List ℕ) (next k : ℕ) → next ≤ k → k < next + 256 → missing_in w k ≡ lacks (waiting_of w next k)
unfolding waits_at
missing-same w next k lo hi = sym (ap lacks (waits_place w next k lo hi) ∙ lacks_by (eqb (size_at w (k % 256)) 0) (part w (start_of (k % 256)) (size_at w (k % 256))))

-- two tests that agree on n numbers from k on
Alike : (ℕ → Bool) → (ℕ → Bool) → ℕ → ℕ → Type 0
Alike f g k n = (j : ℕ) → k ≤ j → j < k + n → f j ≡ g j

alike_on : (f g : ℕ → Bool) (k n : ℕ) → Alike f g k (suc n) → Alike f g (k + 1) n
unfolding Alike
alike_on f g k n h j lo hi = h j (omega arith) (omega arith)

runs_same : (f g : ℕ → Bool) (k n begun : ℕ) → Alike f g k n → runs_from f k n begun ≡ runs_from g k n begun
unfolding runs_from Alike
runs_same f g k zero begun h = refl
runs_same f g k (suc n) begun h =
    (λ i. cond (h k (omega arith) (omega arith) i) (runs_same f g (k + 1) n (begun + 1) (alike_on f g k n h) i) (closed k begun ++ runs_same f g (k + 1) n 0 (alike_on f g k n h) i))

first_same : (f g : ℕ → Bool) (k n : ℕ) → Alike f g k n → first_from f k n ≡ first_from g k n
unfolding first_from Alike
first_same f g k zero h = refl
first_same f g k (suc n) h = λ i. cond (h k (omega arith) (omega arith) i) k (first_same f g (k + 1) n (alike_on f g k n h) i)

run_same : (f g : ℕ → Bool) (k n : ℕ) → Alike f g k n → run_from f k n ≡ run_from g k n
unfolding run_from Alike
run_same f g k n h =
    let start : ℕ = first_from f k n in
    let one : first_from f k n ≡ first_from g k n = first_same f g k n h in
    let between : Between k (k + n) (first_from f k n) = first_between f k n in
    let two : first_from (λ j. not (f j)) start (k + n - start) ≡ first_from (λ j. not (g j)) start (k + n - start) =
    first_same (λ j. not (f j)) (λ j. not (g j)) start (k + n - start) (λ j lo hi. ap not (h j (omega (arith, between.least)) (omega (arith, between.most)))) in
    (λ i. (start, two i - start)) ∙ ap (λ (m : ℕ). (m, first_from (λ j. not (g j)) m (k + n - m) - m)) one

module _ (room window : List ℕ) where
  near : (k n : ℕ) → next_in room ≤ k → k + n ≤ next_in room + 256 → Alike (missing_in window) (missing (line_in room window)) k n
  unfolding Alike
  near k n lo hi j l h = missing-same window (next_in room) j (omega arith) (omega arith)

  pub gaps_same : runs.gaps_of window (next_in room) (end_in room) ≡ gaps_of (line_in room window)
  unfolding gaps_of
  gaps_same =
      runs_same (missing_in window) (missing (line_in room window)) (next_in room) (limit_of (next_in room) (end_in room) - next_in room) 0
      (near (next_in room) (limit_of (next_in room) (end_in room) - next_in room) (omega arith) (omega arith))

  pub gap_same : (from : ℕ) {top first : ℕ} {gap : Gap} → next_in room ≤ end_in room → top ≡ min (end_in room) (next_in room + 256) → first ≡ min (max from (next_in room)) top → IsRun (missing_in window) first top gap → gap ≡ gap_from (line_in room window) from
  unfolding gap_from
  gap_same from {top} {first} {gap} ordered ends begins run =
      let at : first ≡ placed (line_in room window) from = begins ∙ ap (min (max from (next_in room))) ends in
      let same : run_from (missing_in window) first (top - first) ≡ run_from (missing (line_in room window)) first (top - first) =
      run_same (missing_in window) (missing (line_in room window)) first (top - first) (near first (top - first) (omega arith) (omega arith)) in
      let whole : run_from (missing (line_in room window)) first (top - first) ≡ run_from (missing (line_in room window)) (placed (line_in room window) from) (limit (line_in room window) - placed (line_in room window) from) =
      (λ i. run_from (missing (line_in room window)) (at i) (ends i - at i)) in
      λ i. record { start = (run.start ∙ ap (λ (p : ℕ × ℕ). p.0) (same ∙ whole)) i; count = (run.count ∙ ap (λ (p : ℕ × ℕ). p.1) (same ∙ whole)) i }

-- ---- the lowest number not carried

lacks_there : (o : Option (List ℕ)) → lacks o ≡ not (is_there o)
lacks_there none = refl
lacks_there (some m) = refl

-- the first that is missing, from next on, is the first that does not wait
first_lowest : (w : List ℕ) (next k n : ℕ) → next ≤ k → k + n ≤ next + 256 → first_from (missing_in w) k n ≡ lowest_from (waiting_of w next) k n
unfolding first_from lowest_from
first_lowest w next k zero lo hi = refl
first_lowest w next k (suc n) lo hi =
    go (is_there (waiting_of w next k)) (missing-same w next k lo (omega arith) ∙ lacks_there (waiting_of w next k))
    ∙ ap (λ (m : ℕ). cond (is_there (waiting_of w next k)) m k) (first_lowest w next (k + 1) n (omega arith) (omega arith))
  where
    go : (b : Bool) → missing_in w k ≡ not b → cond (missing_in w k) k (first_from (missing_in w) (k + 1) n) ≡ cond b (first_from (missing_in w) (k + 1) n) k
    go true e = ap (λ (c : Bool). cond c k (first_from (missing_in w) (k + 1) n)) e
    go false e = ap (λ (c : Bool). cond c k (first_from (missing_in w) (k + 1) n)) e

pub lowest_is : (room w : List ℕ) {r : ℕ} → r ≡ first_from (missing_in w) (next_in room) (next_in room + 256 - next_in room) → r ≡ lowest_in 256 (line_in room w)
unfolding lowest_in
lowest_is room w e =
    let c : next_in room + 256 - next_in room ≡ 256 = omega arith in
    e ∙ ap (first_from (missing_in w) (next_in room)) c ∙ first_lowest w (next_in room) (next_in room) 256 (omega arith) (omega arith)
