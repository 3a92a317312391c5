-- What taking, keeping and applying promise, of every session that keeps the rule, each for a call by its own contract.
-- Assumes nothing.
use mathlib.Core.Path.{◌≡◌, refl, ap, ◌∙◌, sym, subst}
use mathlib.Core.Bool.{Bool, true, false, cond}
use mathlib.Core.List.{List, [], ◌∷◌, ◌++◌, map}
use mathlib.Core.Option.{Option, none, some}
use Prim.Native.Nat.{ℕ, ◌+◌, ◌-◌, ◌≤◌, max, min}
use native.Mathlib.Omega.{arith}
use borrow.Author.Tests.{eq-eqb, eqb-true, leb-true, ne_eqb}
use lib.Dec.{eqb, leb}
use lib.ListN.{length-map}
use Rattle.std.specs.Prelude.{Result, Ok, Err}
use Rattle.std.specs.Result.{is_ok, result_unwrap_or}
use Rattle.std.proofs.lemmas.Bool.{false≢true}
use Rattle.refusals.specs.Refusals.{answered, refusal_by, refusal_in}
use Rattle.refusals.specs.declared.Refusal.{Refusal}
use Rattle.refusals.specs.declared.Refusal.TheVariants.{TooFarAhead}
use Rattle.wire.specs.Number.{Bytes}
use Rattle.merge.specs.State as merge
use Rattle.merge.specs.State.{Call, Packet, apply_some, apply_up_to, applying, call_all, call_one, end_of, fresh_if, fresh_in, heartbeat, keep, keep_one, keeping, kept_if, lowest_in, opened, step, take_if, take_one}
use Rattle.merge.proofs.Clauses.{keep-heartbeat}
use Rattle.merge.proofs.Demand3.{apply_some_moves, keep-refused, keep_stands, take-refused}
use Rattle.merge.proofs.Lowest.{keep_past, lowest_in_lem}
use Rattle.merge.proofs.Rule.{keep_inv}
use Rattle.packet.specs.Header as header
use Rattle.packet.specs.Header.{Test, decided, header_in}
use Rattle.packet.specs.Judging.{packet_tests, unless_heartbeat}
use Rattle.window_taking.specs.Taking.{bytes_at, differ_from, frames_in, is_some, judge, nine, or_zero, packet_in, take_tests, wait_tests}
use Rattle.window_taking.specs.Keeping.{fresh_by}
use Rattle.window_taking.proofs.Answered.{answered_number, test_most}
use Rattle.window_taking.proofs.Keeps.{same-fresh}
use Rattle.session.specs.Asking.{line_in}
use Rattle.window_taking.proofs.Accepted.{length_frames, never_nine, overnight-judged, overnight_past}
use Rattle.session.specs.Meaning.{Held, Ruled, Meaning, feed, overnight, rep, view}
use Rattle.session.specs.Bursts.{applied_of, refusal_of}
use Rattle.session.proofs.Calls.{both, few, packet_small}
use Rattle.session.specs.Engine.{Good}
use Rattle.session.proofs.States.{good_apply, good_kept, good_one, meaning, ruled_rule, stands, view-rep}
use Rattle.session_keeping.proofs.Given.{AppliedSome, KeptOne, Took, applied-is, applied_told, kept_one_is, kept_one_told, took_answer, took_is}

-- ---- what an answer tells

-- by the number of the test that decides
module _ (n a : ℕ) where
  ok_by : {b : ℕ} → answered n a ≡ Ok b → (n ≡ 0) × (b ≡ a)
  ok_by {b} e = go (eqb n 0) refl e
    where
      go : (c : Bool) → eqb n 0 ≡ c → cond c (Ok a) (Err (refusal_by n)) ≡ Ok b → (n ≡ 0) × (b ≡ a)
      go true t f = (eqb-true n 0 t, sym (ap (λ r. result_unwrap_or r a) f))
      go false t f = absurd (false≢true (ap is_ok f))

  err_by : {refusal : Refusal} → answered n a ≡ Err refusal → n ≡ 0 → ⊥
  err_by e z = false≢true (ap is_ok (sym e ∙ ap (λ m. answered m a) z))

  nine_by : n ≤ 14 → answered n a ≡ Err TooFarAhead → n ≡ 9
  nine_by most e = sym (answered_number n a most) ∙ ap refusal_in e

-- ---- 9 is the first test behind 1 to 8

past_low : (b : Bool) (t d : ℕ × ℕ) → t.0 ≤ 8 → (cond b t d).0 ≡ 9 → d.0 ≡ 9
past_low true t d low e = absurd (omega arith)
past_low false t d low e = e

beyond : (xs ys : List Test) → few 8 xs ≡ true → (decided (xs ++ ys)).0 ≡ 9 → (decided ys).0 ≡ 9
beyond [] ys h e = e
beyond (t ∷ ts) ys h e =
    let b = both (leb t.1.0 8) (few 8 ts) h in
    beyond ts ys b.1 (past_low t.0 t.1 (decided (ts ++ ys)) (leb-true t.1.0 8 b.0) e)

ten_only : (b : Bool) (at : ℕ) → (cond {A = ℕ × ℕ} b (10, at) (0, 0)).0 ≡ 9 → ⊥
ten_only true at e = omega arith
ten_only false at e = omega arith

not-nine : (x : Meaning) (s : List ℕ) → (nine x s).0 ≡ false → refusal_of x s ≡ 9 → ⊥
unfolding take_tests
not-nine x s free e = go (header.heartbeat (header_in s).flag) (beyond (packet_tests s) (unless_heartbeat (header.heartbeat (header_in s).flag) (wait_tests x s)) (packet_small s) e)
  where
    go : (b : Bool) → (decided (unless_heartbeat b (wait_tests x s))).0 ≡ 9 → ⊥
    go true f = omega arith
    go false f =
        let at = differ_from x.waiting (header_in s).seq (frames_in s) s in
        ten_only (is_some at) (or_zero at) (ap (λ (b : Bool). (cond {A = ℕ × ℕ} b (9, 2) (cond (is_some at) (10, or_zero at) (0, 0))).0) (sym free) ∙ f)

-- ---- the promises

first_is : (s : List ℕ) → (packet_in s).first ≡ (header_in s).seq
unfolding packet_in
first_is s = go (header.heartbeat (header_in s).flag)
  where
    go : (b : Bool) → (cond {A = Packet (List ℕ)} b (heartbeat (header_in s).seq) (merge.packet (header_in s).seq (map (bytes_at s) (frames_in s)))).first ≡ (header_in s).seq
    go true = refl
    go false = refl

end_is : (s : List ℕ) → header.heartbeat (header_in s).flag ≡ false → end_of (packet_in s) ≡ (header_in s).seq + (header_in s).messages
unfolding packet_in
end_is s e =
    ap (λ (b : Bool). end_of (cond {A = Packet (List ℕ)} b (heartbeat (header_in s).seq) (merge.packet (header_in s).seq (map (bytes_at s) (frames_in s))))) e
    ∙ ap (λ (n : ℕ). (header_in s).seq + n) (length-map (frames_in s) (bytes_at s) ∙ length_frames (header_in s).messages 12 s)

module _ {s t : Held} {packet : List ℕ} {answer : Result ℕ Refusal} (rule : Ruled s) (bytes : Bytes packet) (call : Took s packet t answer) where
  session_is : t ≡ rep (take_one overnight (view s) packet)
  session_is = took_is call

  answer_is : answer ≡ answered (refusal_of (view s) packet) (applied_of (view s) packet)
  answer_is = took_answer call

  good : Good (view s)
  good = subst Good (sym (meaning (stands rule))) (stands rule).good

  behind : view t ≡ take_one overnight (view s) packet
  behind = ap view session_is ∙ view-rep (good_one good packet bytes)

  accepted-is : {n : ℕ} → answer ≡ Ok n → judge (view s) packet ≡ some (packet_in packet)
  unfolding judge
  accepted-is e =
      ap (λ (b : Bool). cond b (some (packet_in packet)) none)
      (eq-eqb (refusal_of (view s) packet) 0 (ok_by (refusal_of (view s) packet) (applied_of (view s) packet) (sym answer_is ∙ e)).0)

  refused-is : {refusal : Refusal} → answer ≡ Err refusal → judge (view s) packet ≡ none
  unfolding judge
  refused-is e =
      ap (λ (b : Bool). cond b (some (packet_in packet)) none)
      (ne_eqb (refusal_of (view s) packet) 0 (err_by (refusal_of (view s) packet) (applied_of (view s) packet) (sym answer_is ∙ e)))

  -- A packet that starts at or below next never meets 9.
  pub low_start_no_nine : (header_in packet).seq ≤ (view s).next → answer ≡ Err TooFarAhead → ⊥
  low_start_no_nine low e =
      not-nine (view s) packet (never_nine (view s) packet bytes low) (nine_by (refusal_of (view s) packet) (applied_of (view s) packet) (test_most (view s) packet) (sym answer_is ∙ e))

  past_end : {n : ℕ} → (header_in packet).seq ≤ (view s).next → answer ≡ Ok n → end_of (packet_in packet) ≤ (view t).next
  past_end low e =
      let start : (packet_in packet).first ≤ (view s).next = omega (arith, first_is packet) in
      subst (λ (x : Meaning). end_of (packet_in packet) ≤ x.next) (sym behind) (overnight_past feed rule.number packet (ruled_rule rule) (accepted-is e) start)

  -- Accepted, it leaves next past its last number, SeqNum + Messages - 1: next moves, if that number was not below it.
  pub low_start_past : {n : ℕ} → header.heartbeat (header_in packet).flag ≡ false → (header_in packet).seq ≤ (view s).next → answer ≡ Ok n
      → (header_in packet).seq + (header_in packet).messages ≤ (view t).next
  low_start_past some-message low e = subst (λ (k : ℕ). k ≤ (view t).next) (end_is packet some-message) (past_end low e)

  -- How many were applied: new next less old.
  pub applied-count : {n : ℕ} → answer ≡ Ok n → n ≡ (view t).next - (view s).next
  applied-count e =
      (ok_by (refusal_of (view s) packet) (applied_of (view s) packet) (sym answer_is ∙ e)).1
      ∙ ap (λ (x : Meaning). x.next - (view s).next) (sym behind)

  -- A refusal changes nothing, end included.
  pub refusal_changes_nothing : {refusal : Refusal} → answer ≡ Err refusal → t ≡ s
  refusal_changes_nothing e =
      session_is
      ∙ ap rep (take-refused overnight 0 (view s) packet (refused-is e) ∙ meaning (stands rule))
      ∙ sym (stands rule).same

  -- An accepted heartbeat raises end to its SeqNum if that is larger; what waits from next on is then applied.
  pub heartbeat_raises_end : {n : ℕ} → header.heartbeat (header_in packet).flag ≡ true → answer ≡ Ok n
      → view t ≡ apply_up_to feed 256 (record { next = (view s).next; end = max (view s).end (header_in packet).seq; waiting = (view s).waiting; tables = (view s).tables })
  unfolding take_one take_if packet_in
  heartbeat_raises_end beats e =
      let x = view s in
      let one : judge x packet ≡ some (heartbeat (header_in packet).seq) = accepted-is e ∙ ap (λ (b : Bool). some (cond b (heartbeat (header_in packet).seq) (merge.packet (header_in packet).seq (map (bytes_at packet) (frames_in packet))))) beats in
      behind ∙ ap (take_if overnight x) one ∙ ap (apply_up_to feed 256) (keep-heartbeat x (header_in packet).seq)

-- ---- keeping

module _ {s t : Held} {packet : List ℕ} {said : Result ℕ Refusal} (rule : Ruled s) (bytes : Bytes packet) (call : KeptOne s packet t said) where
  said_is : said ≡ answered (refusal_of (view s) packet) (fresh_by (view s) packet)
  unfolding take_tests judge
  said_is = kept_one_told call ∙ ap (answered (refusal_of (view s) packet)) (go (judge (view s) packet))
    where
      go : (o : Option (Packet (List ℕ))) → fresh_if (line_in s.room s.window) o ≡ fresh_if (view s) o
      go none = refl
      go (some p) = same-fresh (line_in s.room s.window) (view s) p refl refl

  kept_good : Good (view s)
  kept_good = subst Good (sym (meaning (stands rule))) (stands rule).good

  kept_behind : view t ≡ keep_one overnight (view s) packet
  unfolding keep_one
  kept_behind = ap view (kept_one_is rule call) ∙ view-rep (good_kept kept_good packet bytes)

  kept_accepted : {n : ℕ} → said ≡ Ok n → judge (view s) packet ≡ some (packet_in packet)
  unfolding judge
  kept_accepted e =
      ap (λ (b : Bool). cond b (some (packet_in packet)) none)
      (eq-eqb (refusal_of (view s) packet) 0 (ok_by (refusal_of (view s) packet) (fresh_by (view s) packet) (sym said_is ∙ e)).0)

  kept_refused : {refusal : Refusal} → said ≡ Err refusal → judge (view s) packet ≡ none
  unfolding judge
  kept_refused e =
      ap (λ (b : Bool). cond b (some (packet_in packet)) none)
      (ne_eqb (refusal_of (view s) packet) 0 (err_by (refusal_of (view s) packet) (fresh_by (view s) packet) (sym said_is ∙ e)))

  -- Keeping leaves next where it is, and the tables.
  pub keeping_stands : ((view t).next ≡ (view s).next) × ((view t).tables ≡ (view s).tables)
  keeping_stands =
      let stand = keep_stands overnight 0 (view s) packet in
      (ap (λ (x : Meaning). x.next) kept_behind ∙ stand.0, ap (λ (x : Meaning). x.tables) kept_behind ∙ stand.1)

  -- It answers how many numbers of the packet now wait that did not before.
  pub keeping_counts : {n : ℕ} → said ≡ Ok n → n ≡ fresh_in (view s) (packet_in packet)
  keeping_counts e =
      (ok_by (refusal_of (view s) packet) (fresh_by (view s) packet) (sym said_is ∙ e)).1
      ∙ ap (fresh_if (view s)) (kept_accepted e)

  -- A packet that starts at or below next never meets 9.
  pub keeping_no_nine : (header_in packet).seq ≤ (view s).next → said ≡ Err TooFarAhead → ⊥
  keeping_no_nine low e =
      not-nine (view s) packet (never_nine (view s) packet bytes low) (nine_by (refusal_of (view s) packet) (fresh_by (view s) packet) (test_most (view s) packet) (sym said_is ∙ e))

  -- Accepted, it moves the lowest number not carried past its last number, SeqNum + Messages - 1.
  pub keeping_past : {n : ℕ} → header.heartbeat (header_in packet).flag ≡ false → (header_in packet).seq ≤ (view s).next → said ≡ Ok n
      → (header_in packet).seq + (header_in packet).messages ≤ lowest_in 256 (view t)
  unfolding keep_one kept_if
  keeping_past some-message low e =
      let p = packet_in packet in
      let fits = (overnight-judged feed).fits (view s) packet p (kept_accepted e) in
      let start : p.first ≤ (view s).next = omega (arith, first_is packet) in
      let is : keep (view s) p ≡ view t = sym (kept_behind ∙ ap (kept_if (view s)) (kept_accepted e)) in
      let past : end_of p ≤ lowest_in 256 (keep (view s) p) = keep_past (ruled_rule rule) p fits start (lowest_in_lem (keep_inv feed 256 rule.number (ruled_rule rule) p fits)) in
      subst (λ (k : ℕ). k ≤ lowest_in 256 (view t)) (end_is packet some-message) (subst (λ (x : Meaning). end_of p ≤ lowest_in 256 x) is past)

  -- A refusal changes nothing, end included.
  pub keeping_refused : {refusal : Refusal} → said ≡ Err refusal → t ≡ s
  keeping_refused e =
      kept_one_is rule call
      ∙ ap rep (keep-refused overnight 0 (view s) packet (kept_refused e) ∙ meaning (stands rule))
      ∙ sym (stands rule).same

  -- An accepted heartbeat raises end to its SeqNum if that is larger, and does nothing else.
  pub keeping_heartbeat : {n : ℕ} → header.heartbeat (header_in packet).flag ≡ true → said ≡ Ok n
      → view t ≡ record { next = (view s).next; end = max (view s).end (header_in packet).seq; waiting = (view s).waiting; tables = (view s).tables }
  unfolding keep_one kept_if packet_in
  keeping_heartbeat beats e =
      let x = view s in
      let one : judge x packet ≡ some (heartbeat (header_in packet).seq) = kept_accepted e ∙ ap (λ (b : Bool). some (cond b (heartbeat (header_in packet).seq) (merge.packet (header_in packet).seq (map (bytes_at packet) (frames_in packet))))) beats in
      kept_behind ∙ ap (kept_if x) one ∙ keep-heartbeat x (header_in packet).seq

-- ---- applying

module _ {s t : Held} {count applied : ℕ} (rule : Ruled s) (call : AppliedSome s count t applied) where
  -- So many are applied as were asked for, or as wait in a row from next on, and next moves by them.
  pub applying_moves : (applied ≡ min count (lowest_in 256 (view s) - (view s).next)) × ((view t).next ≡ (view s).next + applied)
  unfolding apply_some
  applying_moves =
      let good : Good (view s) = subst Good (sym (meaning (stands rule))) (stands rule).good in
      let behind : view t ≡ apply_some overnight count (view s) = ap view (applied-is call) ∙ view-rep (good_apply (min count 256) good) in
      let moves : (apply_some overnight count (view s)).next ≡ (view s).next + min count (lowest_in 256 (view s) - (view s).next) =
      apply_some_moves overnight rule.number (overnight-judged feed) count (ruled_rule rule) (lowest_in_lem (ruled_rule rule)) in
      let told : applied ≡ (apply_some overnight count (view s)).next - (view s).next = applied_told call in
      (omega (arith, told, moves), omega (arith, told, moves, ap (λ (x : Meaning). x.next) behind))
