-- What a packet that is taken carries: whole messages, and no number above 4,294,967,295.
-- Assumes nothing.
use mathlib.Core.Path.{◌≡◌, refl, ◌∙◌, subst}
use mathlib.Core.Bool.{Bool, true, false, cond, not}
use mathlib.Core.List.{List, [], ◌∷◌, map}
use mathlib.Core.Option.{none, some, none-ne-some}
use Prim.Native.Nat.{ℕ, zero, suc, ◌+◌, ◌-◌, ◌≤◌, ◌<◌}
use native.Mathlib.Omega.{arith}
use borrow.Author.Tests.{ltb-false}
use lib.Dec.{eqb, leb, ltb}
use lib.ListN.{length, get_or, get_elem?, length-map}
use Rattle.wire.specs.Number.{Bytes}
use Rattle.wire.proofs.Place.{get_d_small}
use Rattle.merge.specs.State.{Packet, State, copy_of, end_of, heartbeat, packet}
use Rattle.packet.specs.Header as header
use Rattle.packet.specs.Header.{Test, decided, header_in, header_tests}
use Rattle.packet.specs.Judging.{body_tests, fault_of, is_broken, last_of, packet_tests, unless_heartbeat}
use Rattle.packet.specs.Walk.{frames_from, size_at, walk_from}
use Rattle.std.specs.Prelude.{None}
use Rattle.packet.proofs.Judgements.{header_numbered}
use Rattle.message.specs.Whole.{Whole}
use Rattle.window_taking.specs.Taking.{bytes_at, frames_in, judge, packet_in, take_tests, wait_tests}
use Rattle.window_taking.proofs.Accepted.{first_not, judged, length_frames, packet_numbered, second}
use Rattle.window_taking.proofs.Walks.{Goes, goes, unbroken}

-- what is lent as bytes
pub bytes_of : (s : List ℕ) → ((i : ℕ) → get_or s i 0 < 256) → Bytes s
bytes_of [] h = tt
bytes_of (b ∷ s) h = (h 0, bytes_of s (λ i. h (suc i)))

abbrev AllWhole : List (List ℕ) → Type 0
AllWhole [] = Unit {0}
AllWhole (m ∷ ms) = Whole m × AllWhole ms

one_of : (ms : List (List ℕ)) → AllWhole ms → (i : ℕ) {w : List ℕ} → get_elem? ms i ≡ some w → Whole w
one_of [] all i e = absurd (none-ne-some _ e)
one_of (m ∷ ms) all zero {w} e = let q : m ≡ w = cc in subst Whole q all.0
one_of (m ∷ ms) all (suc i) e = one_of ms all.1 i e

copy_whole : (p : Packet (List ℕ)) → AllWhole p.messages → (k : ℕ) (m : List ℕ) → copy_of p k ≡ some m → Whole m
unfolding copy_of
copy_whole p all k m e = go (leb p.first k) e
  where
    go : (b : Bool) → cond b (get_elem? p.messages (k - p.first)) none ≡ some m → Whole m
    go true h = one_of p.messages all (k - p.first) h
    go false h = absurd (none-ne-some _ h)

walked_whole : (s : List ℕ) (n at : ℕ) → walk_from n at s ≡ None → AllWhole (map (bytes_at s) (frames_from n at s))
unfolding frames_from
walked_whole s zero at walk = tt
walked_whole s (suc n) at walk =
    let g : Goes s at (suc n) = goes s at (suc n) walk (omega arith) in
    let one : suc n - 1 ≡ n = omega arith in
    (g.framed.whole, walked_whole s n (at + size_at s at) (subst (λ (k : ℕ). walk_from k (at + size_at s at) s ≡ None) one g.rest))

-- what the judge lets pass
pub record Passes (p : Packet (List ℕ)) : Type 0 where
  pub whole : (k : ℕ) (m : List ℕ) → copy_of p k ≡ some m → Whole m
  pub top : end_of p ≤ 4294967296

-- of one that 1 to 8 let pass and that is no heartbeat the header is there, and its messages are whole, one behind the other
pub record Walks (s : List ℕ) : Type 0 where
  pub long : 12 ≤ length s
  pub walk : walk_from (header_in s).messages 12 s ≡ None

pub walks : (s : List ℕ) → (decided (packet_tests s)).0 ≡ 0 → header.heartbeat (header_in s).flag ≡ false → Walks s
unfolding packet_tests body_tests header_tests
walks s passed e =
    let walk = walk_from (header_in s).messages 12 s in
    let both = second (header_tests s) (unless_heartbeat (header.heartbeat (header_in s).flag) (body_tests walk (header_in s).seq (header_in s).messages)) (header_numbered s) passed in
    let body : (decided (body_tests walk (header_in s).seq (header_in s).messages)).0 ≡ 0 =
    subst (λ (b : Bool). (decided (unless_heartbeat b (body_tests walk (header_in s).seq (header_in s).messages))).0 ≡ 0) e both.1 in
    record {
      long = ltb-false (length s) 12 (first_not (ltb (length s) 12) 1 0 ((ltb 1472 (length s), (2, 0)) ∷ (not (eqb (header_in s).size (length s)), (3, 0)) ∷ header.flags_of (header_in s)) (λ z. omega arith) both.0);
      walk = unbroken walk (first_not (is_broken walk) 7 (fault_of walk) ((ltb 4294967295 (last_of (header_in s).seq (header_in s).messages), (8, 2)) ∷ []) (λ z. omega arith) body);
    }

-- one that all ten let pass, 1 to 8 do
pub first_part : {Table : Type 0} (x : State (List ℕ) Table) (s : List ℕ) → (decided (take_tests x s)).0 ≡ 0 → (decided (packet_tests s)).0 ≡ 0
unfolding take_tests
first_part x s zero-tests = (second (packet_tests s) (unless_heartbeat (header.heartbeat (header_in s).flag) (wait_tests x s)) (packet_numbered s) zero-tests).0

module _ {Table : Type 0} (x : State (List ℕ) Table) (s : List ℕ) (bytes : Bytes s) where
  module _ (zero-tests : (decided (take_tests x s)).0 ≡ 0) where
    by_flag : (b : Bool) → header.heartbeat (header_in s).flag ≡ b → Passes (packet_in s)
    unfolding packet_in packet_tests body_tests
    by_flag true e =
        rw e
        (record {
          whole = copy_whole (heartbeat (header_in s).seq) tt;
          top = omega (arith, get_d_small s 2 bytes, get_d_small s 3 bytes, get_d_small s 4 bytes, get_d_small s 5 bytes);
        })
    by_flag false e =
        let walk = walk_from (header_in s).messages 12 s in
        let tests : (decided (unless_heartbeat (header.heartbeat (header_in s).flag) (body_tests walk (header_in s).seq (header_in s).messages))).0 ≡ 0 =
        (second (header_tests s) (unless_heartbeat (header.heartbeat (header_in s).flag) (body_tests walk (header_in s).seq (header_in s).messages)) (header_numbered s) (first_part x s zero-tests)).1 in
        let body : (decided (body_tests walk (header_in s).seq (header_in s).messages)).0 ≡ 0 =
        subst (λ (b : Bool). (decided (unless_heartbeat b (body_tests walk (header_in s).seq (header_in s).messages))).0 ≡ 0) e tests in
        let eight : List Test = (ltb 4294967295 (last_of (header_in s).seq (header_in s).messages), (8, 2)) ∷ [] in
        let good : is_broken walk ≡ false = first_not (is_broken walk) 7 (fault_of walk) eight (λ z. omega arith) body in
        let late : (decided eight).0 ≡ 0 = subst (λ (b : Bool). (decided ((b, (7, fault_of walk)) ∷ eight)).0 ≡ 0) good body in
        let small : last_of (header_in s).seq (header_in s).messages ≤ 4294967295 =
        ltb-false 4294967295 (last_of (header_in s).seq (header_in s).messages) (first_not (ltb 4294967295 (last_of (header_in s).seq (header_in s).messages)) 8 2 [] (λ z. omega arith) late) in
        let n : length (map (bytes_at s) (frames_in s)) ≡ (header_in s).messages =
        length-map (frames_in s) (bytes_at s) ∙ length_frames (header_in s).messages 12 s in
        rw e
        (record {
          whole = copy_whole (packet (header_in s).seq (map (bytes_at s) (frames_in s))) (walked_whole s (header_in s).messages 12 (unbroken walk good));
          top = omega (arith, n, small);
        })

  pub passes : {p : Packet (List ℕ)} → judge x s ≡ some p → Passes p
  passes {p} h = let j = judged x s p h in subst Passes j.1 (by_flag j.0 (header.heartbeat (header_in s).flag) refl)
