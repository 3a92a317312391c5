-- A packet judged by 1 to 10, by the test that decides; where none does, it is kept.
-- Assumes nothing.
use mathlib.Core.Path.{◌≡◌, refl, ap, ◌∙◌, sym, subst, fun_ext}
use mathlib.Core.Bool.{Bool, true, false, cond, not, ◌&&◌}
use mathlib.Core.List.{List, [], ◌∷◌, map}
use mathlib.Core.Option.{Option, none, some}
use Prim.Native.Nat.{ℕ, ◌+◌, ◌%◌, ◌≤◌, ◌<◌, max}
use mathlib.Core.Logic.{by_cases}
use native.Mathlib.Decide.{dec_lt}
use native.Mathlib.Omega.{arith}
use borrow.Author.Tests.{eq-eqb, eqb-false, eqb-true, ne_eqb, le-leb, lt-leb, ltb-false}
use lib.Dec.{eqb, leb, ltb}
use lib.ListN.{length, length-map}
use Rattle.std.specs.Prelude.{Result, Ok, Err}
use Rattle.refusals.specs.Refusals.{answered, number_of}
use Rattle.refusals.specs.declared.Refusal.{Refusal}
use Rattle.refusals.specs.declared.Refusal.TheVariants.{TooFarAhead, Differs}
use Rattle.refusals.proofs.Numbers.{answered_err, some_number}
use Rattle.wire.specs.Choice.{first_of}
use Rattle.merge.specs.State.{Packet, State, fresh_if, fresh_in, heartbeat, keep, kept_at, kept_if, packet}
use Rattle.merge.proofs.Clauses.{fresh-none, fresh_past, keep-heartbeat, kept_none as kept-none-at, kept_old}
use Rattle.merge.proofs.Copies.{copy_none}
use Rattle.packet.specs.Header as header
use Rattle.packet.specs.Header.{Judged, Test, decided, flag_tests, header_in, header_tests, told}
use Rattle.packet.specs.Judging.{body_tests, fault_of, is_broken, judge_of, last_of, packet_tests, unless_heartbeat}
use Rattle.packet.specs.Walk.{frames_from, walk_from}
use Rattle.packet.specs.declared.header.Header.{Header}
use Rattle.packet.specs.declared.header.Rejection.{Rejection}
use Rattle.packet.proofs.Judgements.{and_left, and_right, decides, header_numbered, joined, passes}
use Rattle.merge.proofs.Places.{waiting_below}
use Rattle.window.specs.Window.{waits_at}
use Rattle.window_taking.specs.Taking.{bytes_at, differ_at, differ_from, frames_in, is_some, judge, nine, offset_of, packet_in, take_tests, ten, wait_tests}
use Rattle.window_taking.specs.Keeping.{waiting_of, window_for, state_of, starts_at, count_of, straight_in, through_in, Known, Neat, Passed, fresh_by, held_by, kept_by, admitted_of}
use Rattle.window_taking.specs.declared.admitting.Admitted.{Admitted}
use Rattle.window_taking.proofs.Accepted.{first_not, length_frames, packet_numbered, second}
use Rattle.window_taking.proofs.Keeps.{same-fresh, same_kept}
use Rattle.window_taking.proofs.Walks.{unbroken}

-- an answer and the window behind it are those of the definition
pub record Admits (through : Bool) (w s : List ℕ) (next end : ℕ) (r : Result Admitted Refusal) (after : List ℕ) : Type 0 where
  pub answer : r ≡ admitted_of through (state_of w next end) s
  pub kept : after ≡ window_for (held_by through (state_of w next end) s).waiting next

nought_of : (b : Bool) (n : ℕ) → n ≡ 0 → cond b 0 n ≡ 0
nought_of true n e = refl
nought_of false n e = e

judge_no : {Table : Type 0} (x : State (List ℕ) Table) (s : List ℕ) {n : ℕ} → (decided (take_tests x s)).0 ≡ n → (n ≡ 0 → ⊥) → judge x s ≡ none
unfolding judge
judge_no x s h named = ap (λ (b : Bool). cond b (some (packet_in s)) none) (ne_eqb (decided (take_tests x s)).0 0 (λ e. named (sym h ∙ e)))

judge_yes : {Table : Type 0} (x : State (List ℕ) Table) (s : List ℕ) → (decided (take_tests x s)).0 ≡ 0 → judge x s ≡ some (packet_in s)
unfolding judge
judge_yes x s h = ap (λ (b : Bool). cond b (some (packet_in s)) none) (eq-eqb (decided (take_tests x s)).0 0 h)

-- where nothing waits under a packet's numbers, nothing differs
pub none_differs : (waiting : ℕ → Option (List ℕ)) (k : ℕ) (frames : List (ℕ × ℕ)) (s : List ℕ) → ((j : ℕ) → k ≤ j → j < k + length frames → waiting j ≡ none)
    → is_some (differ_from waiting k frames s) ≡ false
unfolding differ_from
none_differs waiting k [] s h = refl
none_differs waiting k (frame ∷ frames) s h =
    ap
    (λ (o : Option (List ℕ)).
    is_some
    (elim (differ_at o (bytes_at s frame)) [
      | none ↦ differ_from waiting (k + 1) frames s
      | some byte ↦ some (offset_of frame byte)
    ]))
    (h k (omega arith) (omega arith))
    ∙ none_differs waiting (k + 1) frames s (λ j lo hi. h j (omega arith) (omega arith))

below_none : (w : List ℕ) (next k : ℕ) → k < next → waiting_of w next k ≡ none
unfolding waiting_of
below_none w next k l = waiting_below 256 (waits_at w) next k l

-- nothing waits from end on
none_from : {w : List ℕ} {next end : ℕ} → Known w next end → (k : ℕ) → end ≤ k → waiting_of w next k ≡ none
none_from {w} {next} {end} known k high = go (waiting_of w next k) refl
  where
    go : (o : Option (List ℕ)) → waiting_of w next k ≡ o → o ≡ none
    go none e = refl
    go (some m) e = absurd (omega (arith, known.below k m e))

pub none-waits : {w : List ℕ} {next end : ℕ} → Known w next end → end ≡ next → (k : ℕ) → waiting_of w next k ≡ none
none-waits {w} {next} known level k = by_cases (dec_lt k next) (λ low. below_none w next k low) (λ high. none_from known k (omega (arith, level)))

-- a packet that starts at end or behind it differs from nothing
pub none_clashes : {w : List ℕ} {next end : ℕ} (first messages : ℕ) (s : List ℕ) → Known w next end → end ≤ first
    → false ≡ is_some (differ_from (waiting_of w next) first (frames_from messages 12 s) s)
none_clashes {w} {next} first messages s known behind =
    sym (none_differs (waiting_of w next) first (frames_from messages 12 s) s (λ j low high. none_from known j (omega arith)))

module _ (through : Bool) {w : List ℕ} (s : List ℕ) {next : ℕ} (end : ℕ) (neat : Neat w next) where
  abbrev x : State (List ℕ) (Unit {0})
  x = state_of w next end

  held_straight : through_in through x s ≡ true → held_by through x s ≡ x
  unfolding held_by
  held_straight e = ap (λ (b : Bool). cond b x (kept_by x s)) e

  held_apart : through_in through x s ≡ false → held_by through x s ≡ kept_by x s
  unfolding held_by
  held_apart e = ap (λ (b : Bool). cond b x (kept_by x s)) e

  -- whether the packet goes straight on or is kept, what it leaves behind is the window as it was
  same-held : {after : List ℕ} → after ≡ window_for x.waiting next → after ≡ window_for (kept_by x s).waiting next → after ≡ window_for (held_by through x s).waiting next
  same-held {after} one other = go (through_in through x s) refl
    where
      go : (b : Bool) → through_in through x s ≡ b → after ≡ window_for (held_by through x s).waiting next
      go true e = one ∙ ap (λ (y : State (List ℕ) (Unit {0})). window_for y.waiting next) (sym (held_straight e))
      go false e = other ∙ ap (λ (y : State (List ℕ) (Unit {0})). window_for y.waiting next) (sym (held_apart e))

  -- of a packet that is taken
  abbrev given : Admitted
  given = record { end = (kept_by x s).end; direct = cond (through_in through x s) (count_of (judge x s)) 0; fresh = cond (through_in through x s) 0 (fresh_by x s) }

  answers : {to d f : ℕ} → (decided (take_tests x s)).0 ≡ 0 → to ≡ (kept_by x s).end → d ≡ cond (through_in through x s) (count_of (judge x s)) 0
      → f ≡ cond (through_in through x s) 0 (fresh_by x s) → ◌≡◌ {A = Result Admitted Refusal} (Ok (record { end = to; direct = d; fresh = f })) (admitted_of through x s)
  unfolding admitted_of
  answers h e c f = (λ i. Ok (record { end = e i; direct = c i; fresh = f i })) ∙ sym (ap (λ (n : ℕ). answered n given) h)

  refuses : (r : Refusal) → (decided (take_tests x s)).0 ≡ number_of r → Err r ≡ admitted_of through x s
  unfolding admitted_of
  refuses r h = sym (ap (λ (n : ℕ). answered n given) h ∙ answered_err given r)

  kept_none : {o : Option (Packet (List ℕ))} → o ≡ none → kept_if x o ≡ x
  unfolding kept_if
  kept_none e = ap (kept_if x) e

  kept_some : {o : Option (Packet (List ℕ))} {p : Packet (List ℕ)} → o ≡ some p → kept_if x o ≡ keep x p
  unfolding kept_if
  kept_some e = ap (kept_if x) e

  -- a test that applies refuses, and nothing changes
  refused : (r : Refusal) → (decided (take_tests x s)).0 ≡ number_of r → Admits through w s next end (Err r) w
  refused r h = record { answer = refuses r h; kept = same-held neat.same (neat.same ∙ ap (λ (y : State (List ℕ) (Unit {0})). window_for y.waiting next) (sym (kept_none no))) }
    where
      no : judge x s ≡ none
      no = judge_no x s h (eqb-false (number_of r) 0 (some_number r))

  -- where none applies, the packet is kept, or goes straight on
  module _ (h : (decided (take_tests x s)).0 ≡ 0) {to : ℕ} (ends : to ≡ (keep x (packet_in s)).end) where
    yes : judge x s ≡ some (packet_in s)
    yes = judge_yes x s h

    starts : through_in through x s ≡ (through && (eqb end next && eqb (packet_in s).first next))
    unfolding straight_in
    starts = ap (λ (o : Option (Packet (List ℕ))). through && (eqb end next && starts_at next o)) yes

    kept_end : to ≡ (kept_by x s).end
    kept_end = ends ∙ ap (λ (y : State (List ℕ) (Unit {0})). y.end) (sym (kept_some yes))

    fresh-is : fresh_by x s ≡ fresh_in x (packet_in s)
    fresh-is = ap (fresh_if x) yes

    kept_window_lem : window_for (keep x (packet_in s)).waiting next ≡ window_for (kept_by x s).waiting next
    kept_window_lem = ap (λ (y : State (List ℕ) (Unit {0})). window_for y.waiting next) (sym (kept_some yes))

    -- a packet that leaves the window as it was: one of no message, or all of it old
    left_alone : (through_in through x s ≡ true → length (packet_in s).messages ≡ 0) → fresh_in x (packet_in s) ≡ 0 → w ≡ window_for (keep x (packet_in s)).waiting next
        → Admits through w s next end (Ok (record { end = to; direct = 0; fresh = 0 })) w
    left_alone empty stale is =
        record {
          answer = answers h kept_end (go (through_in through x s) empty) (sym (nought_of (through_in through x s) (fresh_by x s) (fresh-is ∙ stale)));
          kept = same-held neat.same (is ∙ kept_window_lem);
        }
      where
        go : (b : Bool) → (b ≡ true → length (packet_in s).messages ≡ 0) → 0 ≡ cond b (count_of (judge x s)) 0
        go true e = sym (ap count_of yes ∙ e refl)
        go false e = refl

    taken : (through && (eqb end next && eqb (packet_in s).first next)) ≡ false → {after : List ℕ} {f : ℕ} → after ≡ window_for (keep x (packet_in s)).waiting next → f ≡ fresh_in x (packet_in s)
        → Admits through w s next end (Ok (record { end = to; direct = 0; fresh = f })) after
    taken apart is count =
        record {
          answer =
              answers h kept_end (sym (ap (λ (b : Bool). cond b (count_of (judge x s)) 0) (starts ∙ apart)))
              (count ∙ sym fresh-is ∙ sym (ap (λ (b : Bool). cond b 0 (fresh_by x s)) (starts ∙ apart)));
          kept = is ∙ kept_window_lem ∙ ap (λ (y : State (List ℕ) (Unit {0})). window_for y.waiting next) (sym (held_apart (starts ∙ apart)));
        }

    goes : (through && (eqb end next && eqb (packet_in s).first next)) ≡ true → {n : ℕ} → n ≡ length (packet_in s).messages
        → Admits through w s next end (Ok (record { end = to; direct = n; fresh = 0 })) w
    goes level many =
        record {
          answer =
              answers h kept_end (many ∙ sym (ap count_of yes) ∙ sym (ap (λ (b : Bool). cond b (count_of (judge x s)) 0) (starts ∙ level)))
              (sym (ap (λ (b : Bool). cond b 0 (fresh_by x s)) (starts ∙ level)));
          kept = neat.same ∙ ap (λ (y : State (List ℕ) (Unit {0})). window_for y.waiting next) (sym (held_straight (starts ∙ level)));
        }

  more : List Test
  more = unless_heartbeat (header.heartbeat (header_in s).flag) (wait_tests x s)

  apart : decided (take_tests x s) ≡ first_of (packet_tests s) (decided more)
  unfolding take_tests more
  apart = joined (packet_tests s) more (0, 0)

  number : {judged : Judged} → judged ≡ judge_of s → judged.test ≡ (decided (packet_tests s)).0
  unfolding judge_of
  number said = ap (λ (j : Judged). j.test) said

  pub by_packet : {rejection : Rejection} → told (Err rejection) ≡ judge_of s → Admits through w s next end (Err rejection.refusal) w
  by_packet {rejection} said =
      let test : number_of rejection.refusal ≡ (decided (packet_tests s)).0 = number said in
      let named : number_of rejection.refusal ≡ 0 → ⊥ = eqb-false (number_of rejection.refusal) 0 (some_number rejection.refusal) in
      refused rejection.refusal (ap (λ (p : ℕ × ℕ). p.0) (apart ∙ decides (packet_tests s) (decided more) (λ e. named (test ∙ e))) ∙ sym test)

  module _ (passed : told (Ok tt) ≡ judge_of s) where
    zero-tests : (decided (packet_tests s)).0 ≡ 0
    zero-tests = sym (number passed)

    rest : decided (take_tests x s) ≡ decided more
    rest = apart ∙ passes (packet_tests s) (decided more) (packet_numbered s) zero-tests

    split : ((decided (header_tests s)).0 ≡ 0) × ((decided (unless_heartbeat (header.heartbeat (header_in s).flag) (body_tests (walk_from (header_in s).messages 12 s) (header_in s).seq (header_in s).messages))).0 ≡ 0)
    unfolding packet_tests
    split = second (header_tests s) (unless_heartbeat (header.heartbeat (header_in s).flag) (body_tests (walk_from (header_in s).messages 12 s) (header_in s).seq (header_in s).messages)) (header_numbered s) zero-tests

    pub long : 12 ≤ length s
    unfolding header_tests
    long = ltb-false (length s) 12 (first_not (ltb (length s) 12) 1 0 ((ltb 1472 (length s), (2, 0)) ∷ (not (eqb (header_in s).size (length s)), (3, 0)) ∷ header.flags_of (header_in s)) (λ z. omega arith) split.0)

    module _ {head : Header} (read : head ≡ header_in s) where
      flag : (b : Bool) → eqb (head.flag % 2) 1 ≡ b → header.heartbeat (header_in s).flag ≡ b
      flag b e = ap (λ (h : Header). eqb (h.flag % 2) 1) (sym read) ∙ e

      -- a heartbeat
      pub beats : head.flag % 2 ≡ 1 → {to : ℕ} → to ≡ max end head.seq → Admits through w s next end (Ok (record { end = to; direct = 0; fresh = 0 })) w
      unfolding more packet_in keep
      beats h {to} ends =
          let hb : header.heartbeat (header_in s).flag ≡ true = flag true (eq-eqb (head.flag % 2) 1 h) in
          let d : (decided (take_tests x s)).0 ≡ 0 = ap (λ (p : ℕ × ℕ). p.0) (rest ∙ ap (λ (b : Bool). decided (unless_heartbeat b (wait_tests x s))) hb) in
          let p : packet_in s ≡ heartbeat (header_in s).seq = ap (λ (b : Bool). cond b (heartbeat (header_in s).seq) (packet (header_in s).seq (map (bytes_at s) (frames_in s)))) hb in
          let seq : head.seq ≡ (header_in s).seq = ap (λ (h : Header). h.seq) read in
          let k : keep x (packet_in s) ≡ record { next = next; end = max end (header_in s).seq; waiting = waiting_of w next; tables = tt } = ap (keep x) p ∙ keep-heartbeat x (header_in s).seq in
          left_alone d
          (ends ∙ ap (max end) seq ∙ sym (ap (λ (y : State (List ℕ) (Unit {0})). y.end) k))
          (λ e. ap (λ (q : Packet (List ℕ)). length q.messages) p)
          (ap (fresh_in x) p ∙ fresh-none x (header_in s).seq)
          (neat.same ∙ sym (ap (λ (y : State (List ℕ) (Unit {0})). window_for y.waiting next) k))

      module _ (other : head.flag % 2 ≡ 1 → ⊥) where
        hb : header.heartbeat (header_in s).flag ≡ false
        hb = flag false (ne_eqb (head.flag % 2) 1 other)

        waits : decided (take_tests x s) ≡ decided (wait_tests x s)
        unfolding more
        waits = rest ∙ ap (λ (b : Bool). decided (unless_heartbeat b (wait_tests x s))) hb

        is-packet : packet_in s ≡ packet (header_in s).seq (map (bytes_at s) (frames_from (header_in s).messages 12 s))
        unfolding packet_in
        is-packet = ap (λ (b : Bool). cond b (heartbeat (header_in s).seq) (packet (header_in s).seq (map (bytes_at s) (frames_in s)))) hb

        far : (b : Bool) → leb (next + 256) (last_of head.seq head.messages) ≡ b → (nine x s).0 ≡ b
        far b e = ap (λ (h : Header). leb (next + 256) (last_of h.seq h.messages)) (sym read) ∙ e

        pub by_nine : next + 256 < head.seq + head.messages → Admits through w s next end (Err TooFarAhead) w
        by_nine h =
            let n : (nine x s).0 ≡ true = far true (le-leb (next + 256) (last_of head.seq head.messages) (omega arith)) in
            let d : (decided (take_tests x s)).0 ≡ 9 = ap (λ (p : ℕ × ℕ). p.0) (waits ∙ ap (λ (b : Bool). decided ((b, (9, 2)) ∷ ten x s ∷ [])) n) in
            refused TooFarAhead d

        module _ (near : head.seq + head.messages ≤ next + 256) where
          within : (nine x s).0 ≡ false
          within = far false (lt-leb (next + 256) (last_of head.seq head.messages) (omega arith))

          pub passes_on : Passed s next head.seq head.messages
          unfolding body_tests
          passes_on =
              let body : (decided (body_tests (walk_from (header_in s).messages 12 s) (header_in s).seq (header_in s).messages)).0 ≡ 0 =
              subst (λ (b : Bool). (decided (unless_heartbeat b (body_tests (walk_from (header_in s).messages 12 s) (header_in s).seq (header_in s).messages))).0 ≡ 0) hb split.1 in
              record {
                walk =
                    ap (λ (h : Header). walk_from h.messages 12 s) read
                    ∙ unbroken (walk_from (header_in s).messages 12 s) (first_not (is_broken (walk_from (header_in s).messages 12 s)) 7 (fault_of (walk_from (header_in s).messages 12 s)) ((ltb 4294967295 (last_of (header_in s).seq (header_in s).messages), (8, 2)) ∷ []) (λ z. omega arith) body);
                long = long;
                near = near;
              }

          module _ {differ : Bool} (seen : differ ≡ is_some (differ_from (waiting_of w next) head.seq (frames_from head.messages 12 s) s)) where
            tenth : (b : Bool) → differ ≡ b → (ten x s).0 ≡ b
            tenth b e = ap (λ (h : Header). is_some (differ_from (waiting_of w next) h.seq (frames_from h.messages 12 s) s)) (sym read) ∙ sym seen ∙ e

            tested : (b : Bool) → differ ≡ b → (decided (take_tests x s)).0 ≡ (decided ((b, (10, (ten x s).1.1)) ∷ [])).0
            tested b e =
                ap (λ (p : ℕ × ℕ). p.0)
                (waits ∙ ap (λ (c : Bool). decided ((c, (9, 2)) ∷ ten x s ∷ [])) within ∙ ap (λ (c : Bool). decided ((c, (10, (ten x s).1.1)) ∷ [])) (tenth b e))

            pub by_ten : differ ≡ true → Admits through w s next end (Err Differs) w
            by_ten e = refused Differs (tested true e)

            module _ (e : differ ≡ false) {to : ℕ} (ends : to ≡ max end (head.seq + head.messages)) {b : Bool} (at_next : b ≡ (through && (eqb end next && eqb head.seq next))) where
              p : packet_in s ≡ packet head.seq (map (bytes_at s) (frames_from head.messages 12 s))
              p = is-packet ∙ ap (λ (h : Header). packet h.seq (map (bytes_at s) (frames_from h.messages 12 s))) (sym read)

              n : length (map (bytes_at s) (frames_from head.messages 12 s)) ≡ head.messages
              n = length-map (frames_from head.messages 12 s) (bytes_at s) ∙ length_frames head.messages 12 s

              end_is : to ≡ (keep x (packet_in s)).end
              unfolding keep
              end_is = ends ∙ sym (ap (λ (q : Packet (List ℕ)). (keep x q).end) p ∙ ap (λ (k : ℕ). max end (head.seq + k)) n)

              level : b ≡ (through && (eqb end next && eqb (packet_in s).first next))
              level = at_next ∙ sym (ap (λ (q : Packet (List ℕ)). through && (eqb end next && eqb q.first next)) p)

              pub keeps : b ≡ false → {after : List ℕ} {f : ℕ}
                  → f ≡ fresh_in (state_of w next next) (packet head.seq (map (bytes_at s) (frames_from head.messages 12 s))) → after ≡ window_for (keep (state_of w next next) (packet head.seq (map (bytes_at s) (frames_from head.messages 12 s)))).waiting next
                  → Admits through w s next end (Ok (record { end = to; direct = 0; fresh = f })) after
              unfolding keep
              keeps apart_from {after} count is =
                  taken (tested false e) end_is (sym level ∙ apart_from)
                  (is
                  ∙ ap (λ (f : ℕ → Option (List ℕ)). window_for f next) (same_kept (state_of w next next) x (packet head.seq (map (bytes_at s) (frames_from head.messages 12 s))) refl refl)
                  ∙ sym (ap (λ (q : Packet (List ℕ)). window_for (keep x q).waiting next) p))
                  (count ∙ same-fresh (state_of w next next) x (packet head.seq (map (bytes_at s) (frames_from head.messages 12 s))) refl refl ∙ sym (ap (fresh_in x) p))

              pub passes_by : head.seq + head.messages ≤ next → Admits through w s next end (Ok (record { end = to; direct = 0; fresh = 0 })) w
              unfolding keep
              passes_by old =
                  let ms : List (List ℕ) = map (bytes_at s) (frames_from head.messages 12 s) in
                  let same : (k : ℕ) → kept_at x (packet head.seq (map (bytes_at s) (frames_from head.messages 12 s))) k ≡ waiting_of w next k =
                  λ k.
                  by_cases (dec_lt k next)
                  (λ l. kept_old x (packet head.seq (map (bytes_at s) (frames_from head.messages 12 s))) k l)
                  (λ l. kept-none-at x (packet head.seq (map (bytes_at s) (frames_from head.messages 12 s))) k (copy_none (packet head.seq (map (bytes_at s) (frames_from head.messages 12 s))) k (λ c. omega (arith, c.low, c.high, n)))) in
                  left_alone (tested false e) end_is
                  (λ z. ap (λ (q : Packet (List ℕ)). length q.messages) p ∙ n ∙ none_new head.seq head.messages old (level_seq z))
                  (ap (fresh_in x) p ∙ fresh_past x (packet head.seq (map (bytes_at s) (frames_from head.messages 12 s))) (omega (arith, n)))
                  (neat.same ∙ sym (ap (λ (q : Packet (List ℕ)). window_for (keep x q).waiting next) p ∙ ap (λ (f : ℕ → Option (List ℕ)). window_for f next) (fun_ext same)))
                where
                  none_new : (first many : ℕ) → first + many ≤ next → first ≡ next → many ≡ 0
                  none_new first many h at = omega arith

                  level_seq : through_in through x s ≡ true → head.seq ≡ next
                  level_seq z =
                      eqb-true head.seq next
                      (and_right (eqb end next) (eqb head.seq next)
                      (and_right through (eqb end next && eqb head.seq next) (sym (starts (tested false e) end_is ∙ sym level ∙ at_next) ∙ z)))

              pub goes_on : b ≡ true → Admits through w s next end (Ok (record { end = to; direct = head.messages; fresh = 0 })) w
              goes_on yes =
                  goes (tested false e) end_is (sym level ∙ yes) (sym n ∙ sym (ap (λ (q : Packet (List ℕ)). length q.messages) p))

          -- all of it is old, so nothing differs
          pub old_on : head.seq + head.messages ≤ next → {to : ℕ} → to ≡ max end (head.seq + head.messages) → Admits through w s next end (Ok (record { end = to; direct = 0; fresh = 0 })) w
          old_on old ends =
              passes_by {differ = is_some (differ_from (waiting_of w next) head.seq (frames_from head.messages 12 s) s)} refl
              (none_differs (waiting_of w next) head.seq (frames_from head.messages 12 s) s (λ j lo hi. below_none w next j (omega (arith, length_frames head.messages 12 s))))
              ends
              refl
              old

          -- nothing is known beyond next, so nothing differs
          pub straight_on : Known w next end → {to : ℕ} → to ≡ max end (head.seq + head.messages) → {b : Bool} → b ≡ (through && (eqb end next && eqb head.seq next)) → b ≡ true
              → Admits through w s next end (Ok (record { end = to; direct = head.messages; fresh = 0 })) w
          straight_on known ends at_next yes =
              goes_on {differ = is_some (differ_from (waiting_of w next) head.seq (frames_from head.messages 12 s) s)} refl
              (none_differs (waiting_of w next) head.seq (frames_from head.messages 12 s) s (λ j lo hi. none-waits known (eqb-true end next (and_left (eqb end next) (eqb head.seq next) (and_right through (eqb end next && eqb head.seq next) (sym at_next ∙ yes)))) j))
              ends
              at_next
              yes
