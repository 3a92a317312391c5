-- Demand 3 for the sessions that the calls give, and what follows for two hosts.
-- Assumes nothing.
use mathlib.Core.Path.{◌≡◌, refl, ap, ◌∙◌, sym, subst}
use mathlib.Core.Bool.{Bool, true, false, cond}
use mathlib.Core.List.{List, [], ◌∷◌, ◌++◌}
use mathlib.Core.Option.{none}
use Prim.Native.Nat.{ℕ, ◌+◌, ◌-◌, ◌*◌, ◌≤◌, ◌<◌, min}
use lib.Dec.{ltb}
use Rattle.wire.specs.Number.{Bytes}
use Rattle.merge.specs.State.{Call, apply_some, applying, call_all, call_one, calls_of, keeping, keeps_of, lowest_in, opened, take_all, take_one}
use Rattle.merge.specs.History.{Genuine, Lowest, accepted, first_copy, sent_tables}
use Rattle.merge.specs.Promise.{Demand3, Rule}
use Rattle.merge.proofs.Demand3.{apply_some_moves, call_more, call_all_rule, opened_rule, take_calls}
use Rattle.merge.proofs.Hosts.{host_sent, hosts_agree, hosts_meet}
use Rattle.merge.proofs.Lowest.{lowest_in_lem, stuck_lowest}
use Rattle.window_taking.proofs.Accepted.{overnight_demand3, overnight-judged}
use Rattle.window_taking.specs.Turns.{packets_in}
use Rattle.book.specs.Tables.{fresh}
use Rattle.book.specs.declared.tables.OpeningRule.{OpeningRule}
use Rattle.session.specs.Meaning.{AllBytes, CallsBytes, Held, Meaning, feed, overnight, rep, view}
use Rattle.session.specs.Bursts.{burst_of, handed_in}
use Rattle.session.proofs.Calls.{packets_bytes}
use Rattle.session.proofs.States.{all_more, ruled_means, taken_bytes}
use Rattle.session_keeping.specs.Keeping.{burst_kept}
use Rattle.session_keeping.specs.Passing.{applies_at, pass_on, passed_in}
use Rattle.session_keeping.proofs.Given.{Given, applied-is, applies, bursting, given_ruled, keeps, keeps_many, kept_many_is, kept_one_is, opened-is, opening, passed_over_is, passing, taking, took_all_is, took_is}
use Rattle.session_keeping.proofs.Keeps.{keeps_bytes}

-- the calls that a call of a host is
took_session : (x : Meaning) (ps : List (List ℕ)) → take_all overnight x ps ≡ call_all overnight x (calls_of overnight x ps)
took_session x ps = take_calls overnight 0 x ps

burst_session : (x : Meaning) (lent : List ℕ) (most room : ℕ) → burst_of x lent most room ≡ call_all overnight x (calls_of overnight x (handed_in lent most room))
unfolding burst_of take_all
burst_session x lent most room = go (ltb room (4 * most)) ∙ took_session x (handed_in lent most room)
  where
    go : (b : Bool) → cond b x (take_all overnight x (packets_in most lent)) ≡ take_all overnight x (cond b [] (packets_in most lent))
    go true = refl
    go false = refl

keeps_session : (x : Meaning) (lent : List ℕ) (most room : ℕ) → burst_kept x lent most room ≡ call_all overnight x (keeps_of (handed_in lent most room))
unfolding burst_kept call_all keeps_of
keeps_session x lent most room = go (ltb room (4 * most))
  where
    go : (b : Bool) → cond b x (call_all overnight x (keeps_of (packets_in most lent))) ≡ call_all overnight x (keeps_of (cond b [] (packets_in most lent)))
    go true = refl
    go false = refl

pass_session : (x : Meaning) (s : List ℕ) → pass_on x s ≡ call_all overnight x (passed_in x s)
unfolding pass_on call_all take_all
pass_session x s = go (applies_at x.next x.waiting s)
  where
    go : (b : Bool) → cond b x (take_one overnight x s) ≡ call_all overnight x (cond b [] (calls_of overnight x (s ∷ [])))
    go true = refl
    go false = took_session x (s ∷ [])

passed_bytes : (x : Meaning) (s : List ℕ) → Bytes s → CallsBytes (passed_in x s)
passed_bytes x s bytes = go (applies_at x.next x.waiting s)
  where
    go : (b : Bool) → CallsBytes (cond b [] (calls_of overnight x (s ∷ [])))
    go true = tt
    go false = taken_bytes (s ∷ []) (bytes, tt) x

handed_bytes : (lent : List ℕ) (most room : ℕ) → Bytes lent → AllBytes (handed_in lent most room)
handed_bytes lent most room bytes = go (ltb room (4 * most))
  where
    go : (b : Bool) → AllBytes (cond b [] (packets_in most lent))
    go true = tt
    go false = packets_bytes false most 0 lent bytes

module _ (rule : OpeningRule) {n : ℕ} (small : n ≤ 4294967295) where
  -- calls have given a session
  abbrev pub Gave : List (Call (List ℕ)) → Held → Type 0
  Gave calls s = CallsBytes calls × (s ≡ rep (call_all overnight (opened (fresh rule) n) calls))

  -- its meaning
  means_by : (calls : List (Call (List ℕ))) {s : Held} → Gave calls s → view s ≡ call_all overnight (opened (fresh rule) n) calls
  means_by calls g = ruled_means (record { rule = rule; number = n; small = small; calls = calls; bytes = g.0; given = g.1 })

  -- calls more
  gave_more : (calls : List (Call (List ℕ))) {s t : Held} → Gave calls s → (more : List (Call (List ℕ))) → CallsBytes more → t ≡ rep (call_all overnight (view s) more) → Gave (calls ++ more) t
  gave_more calls g more bytes is = (
    all_more calls more g.0 bytes,
    is ∙ ap (λ (x : Meaning). rep (call_all overnight x more)) (means_by calls g) ∙ ap rep (sym (call_more overnight n calls more (opened (fresh rule) n))),
  )

  pub given_by : {calls : List (Call (List ℕ))} {s : Held} → Given rule n calls s → Gave calls s
  unfolding call_all call_one take_all
  given_by (opening o) = (tt, opened-is o)
  given_by (keeps {calls} {packet = packet} g bytes call) = gave_more calls (given_by g) (keeping packet ∷ []) (bytes, tt) (kept_one_is (given_ruled g) call)
  given_by (applies {calls} {count = count} g call) = gave_more calls (given_by g) (applying count ∷ []) tt (applied-is call)
  given_by (taking {calls} {s = s} {packet = packet} g bytes call) =
      gave_more calls (given_by g) (calls_of overnight (view s) (packet ∷ [])) (taken_bytes (packet ∷ []) (bytes, tt) (view s)) (took_is call ∙ ap rep (took_session (view s) (packet ∷ [])))
  given_by (bursting {calls} {s = s} {lent = lent} {most = most} {room = room} g bytes call) =
      gave_more calls (given_by g) (calls_of overnight (view s) (handed_in lent most room)) (taken_bytes (handed_in lent most room) (handed_bytes lent most room bytes) (view s)) (took_all_is call ∙ ap rep (burst_session (view s) lent most room))
  given_by (keeps_many {calls} {s = s} {lent = lent} {most = most} {room = room} g bytes call) =
      gave_more calls (given_by g) (keeps_of (handed_in lent most room)) (keeps_bytes (handed_in lent most room) (handed_bytes lent most room bytes)) (kept_many_is (given_ruled g) call ∙ ap rep (keeps_session (view s) lent most room))
  given_by (passing {calls} {s = s} {packet = packet} g bytes call) =
      gave_more calls (given_by g) (passed_in (view s) packet) (passed_bytes (view s) packet bytes) (passed_over_is (given_ruled g) call ∙ ap rep (pass_session (view s) packet))

module _ {rule : OpeningRule} {n : ℕ} (small : n ≤ 4294967295) where
  -- the meaning of a given session
  pub means : {calls : List (Call (List ℕ))} {s : Held} → Given rule n calls s → view s ≡ call_all overnight (opened (fresh rule) n) calls
  means {calls} g = means_by rule small calls (given_by rule small g)

  -- its rule
  pub given_rule : {calls : List (Call (List ℕ))} {s : Held} → Given rule n calls s → Rule overnight (fresh rule) n (accepted overnight (opened (fresh rule) n) calls) (view s)
  given_rule {calls} g =
      subst (Rule overnight (fresh rule) n (accepted overnight (opened (fresh rule) n) calls)) (sym (means g))
      (call_all_rule overnight n (overnight-judged feed) calls (opened_rule overnight n))

  -- Demand 3, with the rule that the opening chose: opened at any 32-bit number, after every call. The tables of which it speaks have that rule
  -- and the count of what was counted apart in them.
  pub session_demand3 : {calls : List (Call (List ℕ))} {s : Held} → Given rule n calls s → Demand3 feed (fresh rule) n (accepted overnight (opened (fresh rule) n) calls) (view s)
  session_demand3 {calls} g = subst (Demand3 feed (fresh rule) n (accepted overnight (opened (fresh rule) n) calls)) (sym (means g)) (overnight_demand3 feed (fresh rule) n calls)

  -- n of which it speaks is what `lowest` answers.
  pub session_lowest : {calls : List (Call (List ℕ))} {s : Held} → Given rule n calls s → Lowest n (accepted overnight (opened (fresh rule) n) calls) (lowest_in 256 (view s))
  session_lowest g = lowest_in_lem (given_rule g)

  -- Applying moves next by the smaller of its count and what is left up to that number.
  pub session_moves : {calls : List (Call (List ℕ))} {s : Held} (count : ℕ) → Given rule n calls s
      → (apply_some overnight count (view s)).next ≡ (view s).next + min count (lowest_in 256 (view s) - (view s).next)
  session_moves count g = apply_some_moves overnight n (overnight-judged feed) count (given_rule g) (session_lowest g)

  -- Two hosts that have the same next, and accepted the same messages below it, in whatever packets and order, hold equal tables.
  pub two_hosts : {ones others : List (Call (List ℕ))} {s t : Held} → Given rule n ones s → Given rule n others t → (view s).next ≡ (view t).next
      → ((k : ℕ) → n ≤ k → k < (view s).next → first_copy (accepted overnight (opened (fresh rule) n) ones) k ≡ first_copy (accepted overnight (opened (fresh rule) n) others) k)
      → (view s).tables ≡ (view t).tables
  two_hosts one other at same = hosts_agree (session_demand3 one) (session_demand3 other) at same

  -- Two hosts that accepted the same messages meet: if the first accepted copies agree for every number from the opening on and nothing is
  -- left to apply on either, both have come equally far, and hold equal tables.
  pub two_hosts_meet : {ones others : List (Call (List ℕ))} {s t : Held} → Given rule n ones s → Given rule n others t
      → (view s).waiting (view s).next ≡ none → (view t).waiting (view t).next ≡ none
      → ((k : ℕ) → n ≤ k → first_copy (accepted overnight (opened (fresh rule) n) ones) k ≡ first_copy (accepted overnight (opened (fresh rule) n) others) k)
      → ((view s).next ≡ (view t).next) × ((view s).tables ≡ (view t).tables)
  two_hosts_meet one other settled settled' same =
      let at = hosts_meet (session_demand3 one) (session_demand3 other) same (stuck_lowest (given_rule one) settled) (stuck_lowest (given_rule other) settled') in
      (at, two_hosts one other at (λ k lo hi. same k lo))

  -- Once the first copies are what was sent, the tables are those of what was sent: the lines' losses and order leave no trace.
  pub no_trace : (sent : ℕ → List ℕ) {calls : List (Call (List ℕ))} {s : Held} → Given rule n calls s → Genuine sent (accepted overnight (opened (fresh rule) n) calls)
      → (view s).tables ≡ sent_tables feed (fresh rule) sent n (view s).next
  no_trace sent g genuine = host_sent feed (fresh rule) sent genuine (session_demand3 g)
