-- What an accepted packet is: no test applied, so its numbers lie within the window. Demand 3 for the overnight feed.
-- Assumes nothing.
use mathlib.Core.Path.{◌≡◌, refl, ap, ◌∙◌, sym, subst}
use mathlib.Core.Bool.{Bool, true, false, not, ◌&&◌}
use mathlib.Core.List.{List, [], ◌∷◌, ◌++◌, map}
use mathlib.Core.Option.{Option, none, some}
use Prim.Native.Nat.{ℕ, zero, suc, ◌+◌, ◌≤◌, ◌<◌}
use native.Mathlib.Omega.{arith}
use borrow.Author.Tests.{eqb-true, eqb-false, leb-false, lt-leb}
use lib.Dec.{eqb, leb}
use lib.ListN.{length, length-map}
use Rattle.wire.specs.Number.{Bytes}
use Rattle.wire.proofs.Place.{get_d_small}
use Rattle.merge.specs.State.{Call, Feed, Packet, State, call_all, keep_one, packet, end_of, opened, take_one}
use Rattle.merge.specs.History.{Lowest, accepted, joined}
use Rattle.merge.specs.Promise.{Demand3, Fits, Judged, Rule}
use Rattle.merge.proofs.Demand3.{demand3, keep_moves, keep_stands, take_past}
use Rattle.merge.proofs.Window.{fits_end, fits_heartbeat}
use Rattle.packet.specs.Header as header
use Rattle.packet.specs.Header.{Test, decided, header_in, header_tests}
use Rattle.packet.specs.Judging.{body_tests, last_of, packet_tests, unless_heartbeat}
use Rattle.packet.specs.Walk.{frames_from, size_at, walk_from}
use Rattle.std.specs.Prelude as std
use Rattle.packet.proofs.Judgements.{decides, header_numbered, joined as joined-tests, numbered, passes}
use Rattle.window_taking.specs.Taking.{bytes_at, channel, frames_in, judge, nine, packet_in, take_tests, ten, wait_tests}

-- no test has the number 0
on : (a b c : Bool) → (a && b) ≡ true → (b ≡ true → c ≡ true) → (a && c) ≡ true
on true b c h f = f h
on false b c h f = h

numbered_append : (xs ys : List Test) → numbered xs ≡ true → numbered ys ≡ true → numbered (xs ++ ys) ≡ true
numbered_append [] ys h g = g
numbered_append (x ∷ xs) ys h g = on (not (eqb x.1.0 0)) (numbered xs) (numbered (xs ++ ys)) h (λ n. numbered_append xs ys n g)

body_numbered : (b : Bool) (w : std.Option ℕ) (seq messages : ℕ) → numbered (unless_heartbeat b (body_tests w seq messages)) ≡ true
unfolding body_tests
body_numbered true w seq messages = refl
body_numbered false w seq messages = refl

pub packet_numbered : (s : List ℕ) → numbered (packet_tests s) ≡ true
unfolding packet_tests
packet_numbered s = numbered_append (header_tests s) _ (header_numbered s) (body_numbered (header.heartbeat (header_in s).flag) (walk_from (header_in s).messages 12 s) (header_in s).seq (header_in s).messages)

-- where none of two lists applies, none of the second does
pub second : (xs ys : List Test) → numbered xs ≡ true → (decided (xs ++ ys)).0 ≡ 0 → ((decided xs).0 ≡ 0) × ((decided ys).0 ≡ 0)
second xs ys n h = go (eqb (decided xs).0 0) refl
  where
    go : (b : Bool) → eqb (decided xs).0 0 ≡ b → ((decided xs).0 ≡ 0) × ((decided ys).0 ≡ 0)
    go true e =
        let z : (decided xs).0 ≡ 0 = eqb-true (decided xs).0 0 e in
        (z, ap (λ (d : ℕ × ℕ). d.0) (sym (joined-tests xs ys (0, 0) ∙ passes xs (decided ys) n z)) ∙ h)
    go false e =
        let some : (decided xs).0 ≡ 0 → ⊥ = eqb-false (decided xs).0 0 e in
        absurd (some (ap (λ (d : ℕ × ℕ). d.0) (sym (joined-tests xs ys (0, 0) ∙ decides xs (decided ys) some)) ∙ h))

-- the first test of a list in which none applies
pub first_not : (b : Bool) (number offset : ℕ) (rest : List Test) → (number ≡ 0 → ⊥) → (decided ((b, (number, offset)) ∷ rest)).0 ≡ 0 → b ≡ false
first_not true number offset rest named h = absurd (named h)
first_not false number offset rest named h = refl

pub length_frames : (n at : ℕ) (s : List ℕ) → length (frames_from n at s) ≡ n
unfolding frames_from
length_frames zero at s = refl
length_frames (suc n) at s = ap suc (length_frames n (at + size_at s at) s)

module _ {Table : Type 0} (x : State (List ℕ) Table) (s : List ℕ) where
  -- what the judge accepted
  pub judged : (p : Packet (List ℕ)) → judge x s ≡ some p → ((decided (take_tests x s)).0 ≡ 0) × (packet_in s ≡ p)
  unfolding judge
  judged p h = go (eqb (decided (take_tests x s)).0 0) refl
    where
      go : (b : Bool) → eqb (decided (take_tests x s)).0 0 ≡ b → ((decided (take_tests x s)).0 ≡ 0) × (packet_in s ≡ p)
      go true e =
          let f : some (packet_in s) ≡ some p = simp e at h in
          (eqb-true (decided (take_tests x s)).0 0 e, cc)
      go false e =
          let f : ◌≡◌ {A = Option (Packet (List ℕ))} none (some p) = simp e at h in
          let z : ◌≡◌ {A = ℕ} 0 1 = cc in
          absurd (omega arith)

  within : (b : Bool) → header.heartbeat (header_in s).flag ≡ b → (decided (take_tests x s)).0 ≡ 0 → Fits 256 x (packet_in s)
  unfolding take_tests packet_in
  within true e h = rw e (fits_heartbeat 256 x (header_in s).seq)
  within false e h =
      let h' : (decided (packet_tests s ++ wait_tests x s)).0 ≡ 0 =
      subst (λ (b : Bool). (decided (packet_tests s ++ unless_heartbeat b (wait_tests x s))).0 ≡ 0) e h in
      let d = second (packet_tests s) (wait_tests x s) (packet_numbered s) h' in
      let near : last_of (header_in s).seq (header_in s).messages < x.next + 256 =
      leb-false (x.next + 256) (last_of (header_in s).seq (header_in s).messages)
      (first_not (leb (x.next + 256) (last_of (header_in s).seq (header_in s).messages)) 9 2 (ten x s ∷ []) (λ z. omega arith) d.1) in
      let count : length (map (bytes_at s) (frames_in s)) ≡ (header_in s).messages =
      length-map (frames_in s) (bytes_at s) ∙ length_frames (header_in s).messages 12 s in
      rw e (fits_end 256 x (packet (header_in s).seq (map (bytes_at s) (frames_in s))) (omega arith))

-- the overnight judge is one that demand 3 may rest on
pub overnight-judged : {Table : Type 0} (feed : Feed (List ℕ) Table) → Judged (channel feed)
overnight-judged feed =
    record { fits = λ x s p h. let j = judged x s p h in subst (Fits 256 x) j.1 (within x s (header.heartbeat (header_in s).flag) refl j.0) }

-- Demand 3 for the overnight feed, over any tables: for every opening, by its number and the tables that it starts from, and every
-- sequence of calls of both kinds.
pub overnight_demand3 : {Table : Type 0} (feed : Feed (List ℕ) Table) (start : Table) (s : ℕ) (calls : List (Call (List ℕ))) → Demand3 feed start s (accepted (channel feed) (opened start s) calls) (call_all (channel feed) (opened start s) calls)
overnight_demand3 feed start s calls = demand3 (channel feed) s (overnight-judged feed) calls

-- A packet that starts at or below next never meets 9: it has at most 255 messages.
pub never_nine : {Table : Type 0} (x : State (List ℕ) Table) (s : List ℕ) → Bytes s → (header_in s).seq ≤ x.next → (nine x s).0 ≡ false
never_nine x s bytes start =
    lt-leb (x.next + 256) (last_of (header_in s).seq (header_in s).messages) (omega (arith, get_d_small s 7 bytes))

-- If it is kept, and its last number is at or above next, the lowest number not carried moves past that number; next stands.
pub overnight_moves : {Table : Type 0} (feed : Feed (List ℕ) Table) {start : Table} (s : ℕ) {h : List (Packet (List ℕ))} {x : State (List ℕ) Table} (bytes : List ℕ) {p : Packet (List ℕ)} {n : ℕ} → Rule (channel feed) start s h x → judge x bytes ≡ some p → p.first ≤ x.next
    → Lowest s (h ++ (p ∷ [])) n → (end_of p ≤ n) × ((keep_one (channel feed) x bytes).next ≡ x.next)
overnight_moves feed s {h} {x} bytes {p} {n} rule e start low = (
  keep_moves (channel feed) s (overnight-judged feed) bytes rule e start (subst (λ (o : Option (Packet (List ℕ))). Lowest s (h ++ joined o []) n) (sym e) low),
  (keep_stands (channel feed) s x bytes).0,
)

-- Taken, it moves next too.
pub overnight_past : {Table : Type 0} (feed : Feed (List ℕ) Table) {start : Table} (s : ℕ) {h : List (Packet (List ℕ))} {x : State (List ℕ) Table} (bytes : List ℕ) {p : Packet (List ℕ)} → Rule (channel feed) start s h x → judge x bytes ≡ some p → p.first ≤ x.next → end_of p ≤ (take_one (channel feed) x bytes).next
overnight_past feed s bytes rule e start = take_past (channel feed) s (overnight-judged feed) bytes rule e start
