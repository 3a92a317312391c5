-- What a host holds after an opening and the calls since. What a call gave is said by its own contract, as the checker
-- has it: `Post` of its arguments, its answer and the lent memory at its end.
-- Assumes nothing.
use mathlib.Core.Path.{◌≡◌}
use mathlib.Core.List.{List, [], ◌∷◌, ◌++◌}
use Prim.Native.Nat.{ℕ}
use lib.ListN.{length}
use Rattle.std.specs.Prelude.{Result}
use Rattle.refusals.specs.declared.Refusal.{Refusal}
use Rattle.wire.specs.Number.{Bytes}
use Rattle.merge.specs.State as merge
use Rattle.merge.specs.State.{Call, apply_some, applying, calls_of, keep_one, keeping, keeps_of, take_one}
use Rattle.book.specs.Tables.{fresh}
use Rattle.book.specs.declared.tables.OpeningRule.{OpeningRule}
use Rattle.session.specs.Meaning.{Held, Ruled, held, overnight, rep, view}
use Rattle.session.specs.Bursts.{answer_of, applied_by, burst_of, handed_in}
use Rattle.session.specs.Asking.{line_in}
use Rattle.session_keeping.specs.Keeping.{burst_kept, kept_of}
use Rattle.session_keeping.specs.Passing.{pass_on, passed_in}
use Rattle.session.specs.declared.state.Session.{Session}
use Rattle.session.proofs.state.Session.open.Reads as session-open
use Rattle.session.proofs.packets.take.Reads as session-take
use Rattle.session.proofs.packets.burst.Reads as session-burst
use Rattle.session.proofs.packets.apply.Reads as session-apply
use Rattle.session_keeping.proofs.keeping.keep.Reads as session-keep
use Rattle.session_keeping.proofs.keeping.keep_burst.Reads as session-keeps
use Rattle.session_keeping.proofs.passing.pass.Reads as session-pass

-- an opening by a rule, at a number, gave the session, the room and the window
pub data Opened : OpeningRule → ℕ → Held → Type 0 where
  opened : (κs : _) (a : _) (r : _) (later : _) → session-open.Post κs a r later → Opened a.1.0 a.0 (held r later.1.1.0.now later.1.1.1.0.now)

-- taking a packet, with these held before, gave this answer, with those held behind it
pub data Took : Held → List ℕ → Held → Result ℕ Refusal → Type 0 where
  took : (κs : _) (a : _) (r : _) (later : _) → session-take.Post κs a r later
      → Took (held a.0 a.1.0.now a.1.1.0.now) a.1.1.1.0.now (held r.session later.1.0.now later.1.1.0.now) r.answer

-- so did taking so many packets of lent bytes, with a list of so many numbers for the answers
pub data TookAll : Held → List ℕ → ℕ → ℕ → Held → Type 0 where
  took_all : (κs : _) (a : _) (r : _) (later : _) → session-burst.Post κs a r later
      → TookAll (held a.0 a.1.0.now a.1.1.0.now) a.1.1.1.0.now a.1.1.1.1.0 (length a.1.1.1.1.1.0.now) (held r.session later.1.0.now later.1.1.0.now)

-- passing a packet over, whatever session is held beside the room and the window
pub data PassedOver : Held → List ℕ → Held → Type 0 where
  passed_over : (κs : _) (a : _) (r : _) (later : _) → session-pass.Post κs a r later → (session : Session)
      → PassedOver (held session a.0.now a.1.0.now) a.1.1.0.now (held session later.0.now later.1.0.now)

-- keeping a packet, and so many of lent bytes, likewise
pub data KeptOne : Held → List ℕ → Held → Result ℕ Refusal → Type 0 where
  kept_one : (κs : _) (a : _) (r : _) (later : _) → session-keep.Post κs a r later → (session : Session)
      → KeptOne (held session a.0.now a.1.0.now) a.1.1.0.now (held session later.0.now later.1.0.now) r

pub data KeptMany : Held → List ℕ → ℕ → ℕ → Held → Type 0 where
  kept_many : (κs : _) (a : _) (r : _) (later : _) → session-keeps.Post κs a r later → (session : Session)
      → KeptMany (held session a.0.now a.1.0.now) a.1.1.0.now a.1.1.1.0 (length a.1.1.1.1.0.now) (held session later.0.now later.1.0.now)

-- applying up to a count gave this number of messages
pub data AppliedSome : Held → ℕ → Held → ℕ → Type 0 where
  applied_some : (κs : _) (a : _) (r : _) (later : _) → session-apply.Post κs a r later
      → AppliedSome (held a.0 a.1.0.now a.1.1.0.now) a.1.1.1.0 (held r.session later.1.0.now later.1.1.0.now) r.count

-- opened by a rule at n, with these calls since, in this order, each packet kept and each count applied: a case for each call of a host
pub data Given (rule : OpeningRule) (n : ℕ) : List (Call (List ℕ)) → Held → Type 0 where
  opening : {s : Held} → Opened rule n s → Given rule n [] s
  keeps : {calls : List (Call (List ℕ))} {s t : Held} {packet : List ℕ} {kept : Result ℕ Refusal} → Given rule n calls s → Bytes packet → KeptOne s packet t kept
      → Given rule n (calls ++ (keeping packet ∷ [])) t
  applies : {calls : List (Call (List ℕ))} {s t : Held} {count applied : ℕ} → Given rule n calls s → AppliedSome s count t applied
      → Given rule n (calls ++ (applying count ∷ [])) t
  taking : {calls : List (Call (List ℕ))} {s t : Held} {packet : List ℕ} {answer : Result ℕ Refusal} → Given rule n calls s → Bytes packet → Took s packet t answer
      → Given rule n (calls ++ calls_of overnight (view s) (packet ∷ [])) t
  bursting : {calls : List (Call (List ℕ))} {s t : Held} {lent : List ℕ} {most room : ℕ} → Given rule n calls s → Bytes lent → TookAll s lent most room t
      → Given rule n (calls ++ calls_of overnight (view s) (handed_in lent most room)) t
  keeps_many : {calls : List (Call (List ℕ))} {s t : Held} {lent : List ℕ} {most room : ℕ} → Given rule n calls s → Bytes lent → KeptMany s lent most room t
      → Given rule n (calls ++ keeps_of (handed_in lent most room)) t
  passing : {calls : List (Call (List ℕ))} {s t : Held} {packet : List ℕ} → Given rule n calls s → Bytes packet → PassedOver s packet t
      → Given rule n (calls ++ passed_in (view s) packet) t

-- ---- what the contracts say

pub opened-is : {rule : OpeningRule} {n : ℕ} {s : Held} → Opened rule n s → s ≡ rep (merge.opened (fresh rule) n)
opened-is (opened κs a r later post) = post.0

pub took_is : {s t : Held} {packet : List ℕ} {answer : Result ℕ Refusal} → Took s packet t answer → t ≡ rep (take_one overnight (view s) packet)
took_is (took κs a r later post) = post.0

pub took_answer : {s t : Held} {packet : List ℕ} {answer : Result ℕ Refusal} → Took s packet t answer → answer ≡ answer_of (view s) packet
took_answer (took κs a r later post) = post.1.0

pub took_all_is : {s t : Held} {lent : List ℕ} {most room : ℕ} → TookAll s lent most room t → t ≡ rep (burst_of (view s) lent most room)
took_all_is (took_all κs a r later post) = post.0

pub passed_over_is : {s t : Held} {packet : List ℕ} → Ruled s → PassedOver s packet t → t ≡ rep (pass_on (view s) packet)
passed_over_is rule (passed_over κs a r later post session) = post.1.0 session rule

pub kept_one_is : {s t : Held} {packet : List ℕ} {kept : Result ℕ Refusal} → Ruled s → KeptOne s packet t kept → t ≡ rep (keep_one overnight (view s) packet)
kept_one_is rule (kept_one κs a r later post session) = post.1.0 session rule

pub kept_one_told : {s t : Held} {packet : List ℕ} {kept : Result ℕ Refusal} → KeptOne s packet t kept → kept ≡ kept_of (line_in s.room s.window) packet
kept_one_told (kept_one κs a r later post session) = post.0

pub kept_many_is : {s t : Held} {lent : List ℕ} {most room : ℕ} → Ruled s → KeptMany s lent most room t → t ≡ rep (burst_kept (view s) lent most room)
kept_many_is rule (kept_many κs a r later post session) = post.1.1.1.0 session rule

pub applied-is : {s t : Held} {count applied : ℕ} → AppliedSome s count t applied → t ≡ rep (apply_some overnight count (view s))
applied-is (applied_some κs a r later post) = post.0

pub applied_told : {s t : Held} {count applied : ℕ} → AppliedSome s count t applied → applied ≡ applied_by (view s) count
applied_told (applied_some κs a r later post) = post.1.0

-- each call keeps the rule: that is a part of its contract
pub given_ruled : {rule : OpeningRule} {n : ℕ} {calls : List (Call (List ℕ))} {s : Held} → Given rule n calls s → Ruled s
given_ruled (opening (opened κs a r later post)) = post.1
given_ruled (keeps g bytes (kept_one κs a r later post session)) = post.1.1 session (given_ruled g)
given_ruled (applies g (applied_some κs a r later post)) = post.1.1
given_ruled (taking g bytes (took κs a r later post)) = post.1.1
given_ruled (bursting g bytes (took_all κs a r later post)) = post.1.1.1.1
given_ruled (keeps_many g bytes (kept_many κs a r later post session)) = post.1.1.1.1 session (given_ruled g)
given_ruled (passing g bytes (passed_over κs a r later post session)) = post.1.1 session (given_ruled g)
