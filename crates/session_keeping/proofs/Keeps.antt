-- Packets kept one after the other: the window and end alone change.
-- Assumes nothing.
use mathlib.Core.Path.{◌≡◌, refl, ap, ap₂, ◌∙◌, sym, subst}
use mathlib.Core.Bool.{Bool, true, false, cond}
use mathlib.Core.List.{List, [], ◌∷◌}
use mathlib.Core.Option.{Option, none, some}
use Prim.Native.Nat.{ℕ, ◌/◌}
use lib.Dec.{eqb, leb}
use lib.ListN.{length, set}
use lib.Seq.{set-get_or}
use Rattle.std.specs.Prelude.{Result, Ok, Err}
use Rattle.refusals.specs.Refusals.{refusal_by}
use Rattle.refusals.specs.declared.Refusal.{Refusal}
use Rattle.wire.specs.Number.{Bytes, splice}
use Rattle.wire.proofs.Place.{splice-none}
use Rattle.merge.specs.State as merge
use Rattle.merge.specs.State.{Packet, call_all, call_one, keep, keep_one, keeps_of, kept_at, kept_if}
use Rattle.packet.specs.Header.{decided}
use Rattle.book.specs.Tables as book
use Rattle.book.specs.Tables.{Tables}
use Rattle.book_room.specs.Room.{parts_of, room_of}
use Rattle.window_taking.specs.Keeping.{Known, Neat, admitted_of, fresh_by, held_by, kept_all, kept_by, window_for}
use Rattle.window_taking.specs.Taking.{judge, take_tests}
use Rattle.window_taking.specs.Turns.{end_by, packets_from, packets_in}
use Rattle.window_taking.specs.declared.admitting.Admitted.{Admitted}
use Rattle.window_taking.proofs.Answered.{end_told}
use Rattle.window_keeping.specs.Keeping.{kept_rows}
use Rattle.session.specs.Asking.{line_in}
use Rattle.session.specs.Meaning.{AllBytes, CallsBytes, Held, Meaning, Ruled, end_in, held, next_in, overnight, rep, view}
use Rattle.session.proofs.Calls.{chosen, rule_of}
use Rattle.session.proofs.Runs.{as_state, bare, bare-judge, kept_next, state_known}
use Rattle.session.proofs.States.{meaning, neat, ruled_calls, stands}
use Rattle.session_keeping.specs.Keeping.{answers_kept, burst_kept, kept_of}

-- ---- on the window alone, and on the whole session

bare_one : (x : Meaning) (p : List ℕ) → kept_by (bare x) p ≡ bare (kept_by x p)
unfolding kept_if keep kept_at
bare_one x p = ap (kept_if (bare x)) (bare-judge x p) ∙ go (judge x p)
  where
    go : (o : Option (Packet (List ℕ))) → kept_if (bare x) o ≡ bare (kept_if x o)
    go none = refl
    go (some q) = refl

bare-all : (x : Meaning) (ps : List (List ℕ)) → kept_all (bare x) ps ≡ bare (kept_all x ps)
unfolding kept_all
bare-all x [] = refl
bare-all x (p ∷ ps) = ap (λ (z : merge.State (List ℕ) (Unit {0})). kept_all z ps) (bare_one x p) ∙ bare-all (kept_by x p) ps

-- next and the tables stand
all_stand : (x : Meaning) (ps : List (List ℕ)) → ((kept_all x ps).next ≡ x.next) × ((kept_all x ps).tables ≡ x.tables)
unfolding kept_all
all_stand x [] = (refl, refl)
all_stand x (p ∷ ps) =
    let more = all_stand (kept_by x p) ps in
    let one = kept_next x (judge x p) in
    (more.0 ∙ one.0, more.1 ∙ one.1)

-- it is so many calls
keep_calls : (x : Meaning) (ps : List (List ℕ)) → kept_all x ps ≡ call_all overnight x (keeps_of ps)
unfolding kept_all call_all call_one keep_one keeps_of
keep_calls x [] = refl
keep_calls x (p ∷ ps) = keep_calls (kept_by x p) ps

pub keeps_bytes : (ps : List (List ℕ)) → AllBytes ps → CallsBytes (keeps_of ps)
unfolding keeps_of
keeps_bytes [] all = tt
keeps_bytes (p ∷ ps) all = (all.0, keeps_bytes ps all.1)

-- ---- at the call

module _ {h : Held} (rule : Ruled h) where
  abbrev state : Meaning
  state = (stands rule).state

  window_is : h.window ≡ window_for state.waiting state.next
  window_is = ap (λ (z : Held). z.window) (stands rule).same

  next_is : next_in h.room ≡ state.next
  unfolding parts_of
  next_is = ap (λ (z : Held). next_in z.room) (stands rule).same

  end_is : end_in h.room ≡ state.end
  unfolding parts_of
  end_is = ap (λ (z : Held). end_in z.room) (stands rule).same

  pub neat_here : Neat h.window (next_in h.room)
  neat_here = subst (Neat h.window) (sym next_is) (subst (λ (l : List ℕ). Neat l state.next) (sym window_is) (neat (stands rule).good))

  pub known_here : Known h.window (next_in h.room) (end_in h.room)
  known_here = state_known state (stands rule).good window_is next_is end_is []

  line : line_in h.room h.window ≡ bare state
  line = as_state state (stands rule).good window_is next_is end_is []

  module _ (ps : List (List ℕ)) {end : ℕ} {w' : List ℕ} (ends : end ≡ (kept_all (line_in h.room h.window) ps).end)
      (kept : w' ≡ window_for (kept_all (line_in h.room h.window) ps).waiting (next_in h.room)) where
    all-bare : kept_all (line_in h.room h.window) ps ≡ bare (kept_all state ps)
    all-bare = ap (λ (z : merge.State (List ℕ) (Unit {0})). kept_all z ps) line ∙ bare-all state ps

    pub all_held : held h.session (set h.room 1 end) w' ≡ rep (call_all overnight (view h) (keeps_of ps))
    unfolding parts_of
    all_held =
        let stand = all_stand state ps in
        let room : set h.room 1 end ≡ room_of (kept_all state ps).next (kept_all state ps).end (book.rep (kept_all state ps).tables) =
        ap₂ (λ (l : List ℕ) (n : ℕ). set l 1 n) (ap (λ (z : Held). z.room) (stands rule).same) (ends ∙ ap (λ (z : merge.State (List ℕ) (Unit {0})). z.end) all-bare)
        ∙ (λ i. room_of (sym stand.0 i) (kept_all state ps).end (book.rep (sym stand.1 i))) in
        let session : h.session ≡ record { orders = (book.rep (kept_all state ps).tables).orders } =
        ap (λ (z : Held). z.session) (stands rule).same ∙ ap (λ (t : Tables). record { orders = (book.rep t).orders }) (sym stand.1) in
        let window : w' ≡ window_for (kept_all state ps).waiting (kept_all state ps).next =
        kept ∙ ap₂ (λ (z : merge.State (List ℕ) (Unit {0})) (n : ℕ). window_for z.waiting n) all-bare (next_is ∙ sym stand.0) in
        (λ i. held (session i) (room i) (window i))
        ∙ ap rep (keep_calls state ps ∙ ap (λ (x : Meaning). call_all overnight x (keeps_of ps)) (sym (meaning (stands rule))))

    pub all_ruled : AllBytes ps → Ruled (held h.session (set h.room 1 end) w')
    all_ruled bytes = rule_of all_held (ruled_calls rule (keeps_of ps) (keeps_bytes ps bytes))

  -- one packet
  module _ (s : List ℕ) {answer : Result Admitted Refusal} {w' : List ℕ} (told : answer ≡ admitted_of false (line_in h.room h.window) s)
      (kept : w' ≡ window_for (held_by false (line_in h.room h.window) s).waiting (next_in h.room)) where
    end_one : end_by (end_in h.room) answer ≡ (kept_all (line_in h.room h.window) (s ∷ [])).end
    unfolding kept_all
    end_one = ap (end_by (end_in h.room)) told ∙ end_told false (line_in h.room h.window) s

    window_one : w' ≡ window_for (kept_all (line_in h.room h.window) (s ∷ [])).waiting (next_in h.room)
    unfolding kept_all held_by
    window_one = kept

    -- end is written, where it is taken
    one_held : held h.session (set h.room 1 (end_by (end_in h.room) answer)) w' ≡ rep (keep_one overnight (view h) s)
    unfolding call_all call_one keeps_of
    one_held = all_held (s ∷ []) end_one window_one

    pub one_taken : {admitted : Admitted} → answer ≡ Ok admitted → held h.session (set h.room 1 admitted.end) w' ≡ rep (keep_one overnight (view h) s)
    one_taken e = ap (λ (a : Result Admitted Refusal). held h.session (set h.room 1 (end_by (end_in h.room) a)) w') (sym e) ∙ one_held

    pub one_refused : {refusal : Refusal} → answer ≡ Err refusal → held h.session h.room w' ≡ rep (keep_one overnight (view h) s)
    one_refused e =
        ap (λ (l : List ℕ). held h.session l w') (sym (set-get_or h.room 1 0))
        ∙ ap (λ (a : Result Admitted Refusal). held h.session (set h.room 1 (end_by (end_in h.room) a)) w') (sym e)
        ∙ one_held

  pub one_ruled : (s : List ℕ) → Bytes s → {after : Held} → after ≡ rep (keep_one overnight (view h) s) → Ruled after
  unfolding call_all call_one keeps_of
  one_ruled s bytes is = rule_of is (ruled_calls rule (keeps_of (s ∷ [])) (bytes, tt))

-- ---- the answers

told_by : Result Admitted Refusal → Result ℕ Refusal
told_by (Ok admitted) = Ok admitted.fresh
told_by (Err refusal) = Err refusal

module _ {T : Type 0} (x : merge.State (List ℕ) T) (s : List ℕ) where
  as_kept : told_by (admitted_of false x s) ≡ kept_of x s
  unfolding told_by admitted_of
  as_kept = go (eqb (decided (take_tests x s)).0 0)
    where
      go : (b : Bool) → told_by (cond b (Ok (record { end = (kept_by x s).end; direct = 0; fresh = fresh_by x s })) (Err (refusal_by (decided (take_tests x s)).0)))
          ≡ cond b (Ok (fresh_by x s)) (Err (refusal_by (decided (take_tests x s)).0))
      go true = refl
      go false = refl

  module _ {answer : Result Admitted Refusal} (told : answer ≡ admitted_of false x s) where
    pub answer_fresh : {admitted : Admitted} → answer ≡ Ok admitted → Ok admitted.fresh ≡ kept_of x s
    unfolding told_by
    answer_fresh e = ap told_by (sym e ∙ told) ∙ as_kept

    pub answer_refused : {refusal : Refusal} → answer ≡ Err refusal → Err refusal ≡ kept_of x s
    unfolding told_by
    answer_refused e = ap told_by (sym e ∙ told) ∙ as_kept

-- ---- a burst

module _ (x : Meaning) (s answers : List ℕ) (most : ℕ) {fits : Bool} (test : fits ≡ leb most (length answers / 4)) {due : ℕ} (dues : due ≡ cond fits most 0) where
  pub burst_kept_lem : {after : Held} → after ≡ rep (call_all overnight x (keeps_of (packets_in due s))) → after ≡ rep (burst_kept x s most (length answers))
  unfolding burst_kept call_all keeps_of packets_from
  burst_kept_lem is = is ∙ ap rep (chosen x s answers most test dues (λ (n : ℕ). call_all overnight x (keeps_of (packets_in n s))) refl)

  pub rows_kept : {T : Type 0} (y : merge.State (List ℕ) T) {after : List ℕ} → after ≡ splice answers 0 (kept_rows y (packets_in due s)) → after ≡ answers_kept y s most answers
  unfolding answers_kept kept_rows packets_from
  rows_kept y is = is ∙ chosen x s answers most test dues (λ (n : ℕ). splice answers 0 (kept_rows y (packets_in n s))) (splice-none answers 0)
