-- Test 10, as specs/Ten.antt says it: what the walk over a packet's messages finds, message by message.
-- Assumes nothing.
use mathlib.Core.Path.{◌≡◌, refl, ap, ◌∙◌, sym, subst}
use mathlib.Core.Bool.{Bool, true, false, cond, not, ◌&&◌, true≢false}
use mathlib.Core.List.{List, [], ◌∷◌, ◌++◌, append_assoc, append-nil}
use mathlib.Core.Logic.{by_cases}
use mathlib.Core.Option.{Option, none, some, none-ne-some}
use Prim.Native.Nat.{ℕ, zero, suc, ◌+◌, ◌-◌, ◌/◌, ◌≤◌, ◌<◌}
use native.Mathlib.Decide.{dec_lt}
use native.Mathlib.Omega.{arith}
use borrow.Author.Tests.{eq-eqb, eqb-false, eqb-true}
use lib.Dec.{eqb}
use lib.ListN.{length, get_elem?}
use lib.Seq.{ext_get_or}
use Rattle.wire.specs.Number.{part}
use Rattle.wire.proofs.Place.{length_part}
use Rattle.merge.specs.State.{State}
use Rattle.message.specs.Whole.{Whole}
use Rattle.packet.specs.Header as header
use Rattle.packet.specs.Header.{Test, decided, flag_tests, header_in, header_tests}
use Rattle.packet.specs.Judging.{body_tests, packet_tests, unless_heartbeat}
use Rattle.packet.specs.Walk.{frames_from, size_at, walk_from}
use Rattle.std.specs.Prelude.{None}
use Rattle.packet.proofs.Headers.{passed}
use Rattle.packet.proofs.Judgements.{and_left, and_right, decides, header_numbered, joined, passes}
use Rattle.window.specs.Window.{agreeing}
use Rattle.window_taking.specs.Taking.{bytes_at, differ_at, differ_from, frames_in, is_some, nine, offset_of, or_zero, take_tests, ten, wait_tests}
use Rattle.window_taking.specs.Keeping.{Framed}
use Rattle.window_taking.specs.Ten.{Waits, Differs, DiffersAt, FirstAt, Differing, FirstDiffering, through_nine, Ten}
use Rattle.window_taking.proofs.Accepted.{first_not, packet_numbered, second}
use Rattle.window_taking.proofs.Differs.{same_bytes, same_size}
use Rattle.window_taking.proofs.Passing.{walks}
use Rattle.window_taking.proofs.Walks.{Goes, goes}
use Rattle.window_taking.proofs.Windows.{Within}

-- ---- two lists of bytes

same_step : (x y : ℕ) (xs ys : List ℕ) (j : ℕ) (b : Bool) → eqb x y ≡ b → j < cond b (suc (agreeing xs ys)) 0 → ((i : ℕ) → i < agreeing xs ys → get_elem? ys i ≡ get_elem? xs i)
    → get_elem? (y ∷ ys) j ≡ get_elem? (x ∷ xs) j
same_step x y xs ys zero true e l rest = ap some (sym (eqb-true x y e))
same_step x y xs ys (suc j) true e l rest = rest j (omega arith)
same_step x y xs ys j false e l rest = absurd (omega arith)

-- up to where they agree, they have the same bytes
agree_same : (xs ys : List ℕ) (j : ℕ) → j < agreeing xs ys → get_elem? ys j ≡ get_elem? xs j
unfolding agreeing
agree_same [] [] j l = absurd (omega arith)
agree_same [] (y ∷ ys) j l = absurd (omega arith)
agree_same (x ∷ xs) [] j l = absurd (omega arith)
agree_same (x ∷ xs) (y ∷ ys) j l = same_step x y xs ys j (eqb x y) refl l (agree_same xs ys)

stop_step : (x y n : ℕ) (xs ys : List ℕ) (b : Bool) → eqb x y ≡ b → get_elem? (y ∷ ys) (cond b (suc n) 0) ≡ get_elem? (x ∷ xs) (cond b (suc n) 0) → (get_elem? ys n ≡ get_elem? xs n → n ≡ length ys)
    → cond b (suc n) 0 ≡ suc (length ys)
stop_step x y n xs ys true e h rest = ap suc (rest h)
stop_step x y n xs ys false e h rest =
    let q : x ≡ y = cc in
    let t : eqb x y ≡ true = eq-eqb x y q in
    let z : ◌≡◌ {A = ℕ} 0 1 = cc in
    absurd (omega arith)

-- there they differ, unless it is the end of the second
agree_stop : (xs ys : List ℕ) → get_elem? ys (agreeing xs ys) ≡ get_elem? xs (agreeing xs ys) → agreeing xs ys ≡ length ys
unfolding agreeing
agree_stop [] [] h = refl
agree_stop [] (y ∷ ys) h = absurd (none-ne-some y (sym h))
agree_stop (x ∷ xs) [] h = refl
agree_stop (x ∷ xs) (y ∷ ys) h = stop_step x y (agreeing xs ys) xs ys (eqb x y) refl h (agree_stop xs ys)

most_step : (n m : ℕ) (b : Bool) → n ≤ m → cond b (suc n) 0 ≤ suc m
most_step n m true l = omega arith
most_step n m false l = omega arith

agree_most : (xs ys : List ℕ) → agreeing xs ys ≤ length ys
unfolding agreeing
agree_most [] [] = omega arith
agree_most [] (y ∷ ys) = omega arith
agree_most (x ∷ xs) [] = omega arith
agree_most (x ∷ xs) (y ∷ ys) = most_step (agreeing xs ys) (length ys) (eqb x y) (agree_most xs ys)

-- ---- one message more

module _ (waiting : ℕ → Option (List ℕ)) (s : List ℕ) (k : ℕ) (frame : ℕ × ℕ) (frames : List (ℕ × ℕ)) where
  further : Waits waiting (k + 1) frames → Waits waiting k (frame ∷ frames)
  further m =
      let n : k + 1 + m.place ≡ k + suc m.place = omega arith in
      record {
        place = suc m.place;
        frame = m.frame;
        copy = m.copy;
        here = m.here;
        waits = subst (λ (j : ℕ). waiting j ≡ some m.copy) n m.waits;
      }

  -- it is the first one, or one of the others
  which : {A : Type 0} (m : Waits waiting k (frame ∷ frames)) → (frame ≡ m.frame → waiting k ≡ some m.copy → A)
      → ((other : Waits waiting (k + 1) frames) → other.frame ≡ m.frame → other.copy ≡ m.copy → A) → A
  which {A} m one other = go m.place refl
    where
      go : (p : ℕ) → m.place ≡ p → A
      go zero e =
          let q : some frame ≡ some m.frame = subst (λ (p : ℕ). get_elem? (frame ∷ frames) p ≡ some m.frame) e m.here in
          let n : k + m.place ≡ k = omega arith in
          one (cc) (subst (λ (j : ℕ). waiting j ≡ some m.copy) n m.waits)
      go (suc p) e =
          let n : k + m.place ≡ k + 1 + p = omega arith in
          other
          (record {
            place = p;
            frame = m.frame;
            copy = m.copy;
            here = subst (λ (p : ℕ). get_elem? (frame ∷ frames) p ≡ some m.frame) e m.here;
            waits = subst (λ (j : ℕ). waiting j ≡ some m.copy) n m.waits;
          })
          refl refl

  module _ (alike : (copy : List ℕ) → waiting k ≡ some copy → bytes_at s frame ≡ copy) where
    -- where the first one does not differ, what differs is among the others
    later : Differs waiting k (frame ∷ frames) s → Differs waiting (k + 1) frames s
    later d =
        which d.message
        (λ e w. absurd (d.other (ap (bytes_at s) (sym e) ∙ alike d.message.copy w)))
        (λ m e f. record { message = m; other = λ h. d.other (ap (bytes_at s) (sym e) ∙ h ∙ f) })

    later_at : (offset : ℕ) → DiffersAt waiting k (frame ∷ frames) s offset → DiffersAt waiting (k + 1) frames s offset
    later_at offset d =
        which d.message
        (λ e w. absurd (d.other (ap (λ (bytes : List ℕ). get_elem? bytes d.byte) (ap (bytes_at s) (sym e) ∙ alike d.message.copy w))))
        (λ m e f.
        record {
          message = m;
          byte = d.byte;
          within = subst (λ (fr : ℕ × ℕ). d.byte < fr.1) (sym e) d.within;
          at = d.at ∙ ap (λ (fr : ℕ × ℕ). fr.0 + d.byte) (sym e);
          other = λ h. d.other (ap (λ (fr : ℕ × ℕ). get_elem? (bytes_at s fr) d.byte) (sym e) ∙ h ∙ ap (λ (bytes : List ℕ). get_elem? bytes d.byte) f);
        })

  sooner : Differs waiting (k + 1) frames s → Differs waiting k (frame ∷ frames) s
  unfolding further
  sooner d = record { message = further d.message; other = d.other }

  sooner_at : {offset : ℕ} → DiffersAt waiting (k + 1) frames s offset → DiffersAt waiting k (frame ∷ frames) s offset
  unfolding further
  sooner_at d = record { message = further d.message; byte = d.byte; within = d.within; at = d.at; other = d.other }

-- ---- all messages

-- what looking at messages finds
data Looks (waiting : ℕ → Option (List ℕ)) (k : ℕ) (frames : List (ℕ × ℕ)) (s : List ℕ) : Option ℕ → Type 0 where
  equal : (Differs waiting k frames s → ⊥) → Looks waiting k frames s none
  unlike : {offset : ℕ} → Differs waiting k frames s → FirstAt waiting k frames s offset → Looks waiting k frames s (some offset)

-- no frame of a walk lies before its start
from_start : (s : List ℕ) (n at p : ℕ) (frame : ℕ × ℕ) → get_elem? (frames_from n at s) p ≡ some frame → at ≤ frame.0
unfolding frames_from
from_start s zero at p frame h = absurd (none-ne-some _ h)
from_start s (suc n) at zero frame h =
    let q : (at, size_at s at) ≡ frame = cc in
    omega (arith, ap (λ (fr : ℕ × ℕ). fr.0) q)
from_start s (suc n) at (suc p) frame h = omega (arith, from_start s n (at + size_at s at) p frame h)

module _ (waiting : ℕ → Option (List ℕ)) (whole : (k : ℕ) (m : List ℕ) → waiting k ≡ some m → Whole m) (s : List ℕ) where
  module _ (k at size : ℕ) (frames : List (ℕ × ℕ)) (framed : Framed s at size) (behind : (p : ℕ) (frame : ℕ × ℕ) → get_elem? frames p ≡ some frame → at + size ≤ frame.0) where
    abbrev bytes : List ℕ
    bytes = part s at size

    long : length bytes ≡ size
    long = length_part s at size framed.within

    past : {r : Option ℕ} → ((copy : List ℕ) → waiting k ≡ some copy → bytes ≡ copy) → Looks waiting (k + 1) frames s r → Looks waiting k ((at, size) ∷ frames) s r
    past alike (equal never) = equal (λ d. never (later waiting s k (at, size) frames alike d))
    past alike (unlike d f) =
        unlike (sooner waiting s k (at, size) frames d)
        (record {
          differs = sooner_at waiting s k (at, size) frames f.differs;
          first = λ earlier l e. f.first earlier l (later_at waiting s k (at, size) frames alike earlier e);
        })

    module _ (copy : List ℕ) (waits : waiting k ≡ some copy) where
      one : Waits waiting k ((at, size) ∷ frames)
      one =
          let n : k ≡ k + 0 = omega arith in
          record { place = 0; frame = (at, size); copy = copy; here = refl; waits = subst (λ (j : ℕ). waiting j ≡ some copy) n waits }

      is_copy : {other : List ℕ} → waiting k ≡ some other → copy ≡ other
      is_copy {other} e = let q : some copy ≡ some other = sym waits ∙ e in cc

      same : agreeing copy bytes ≡ length bytes → (other : List ℕ) → waiting k ≡ some other → bytes ≡ other
      same h other e =
          let n : length copy ≡ length bytes = same_size copy bytes (whole k copy waits) framed.whole h in
          ext_get_or 0 bytes copy (sym n) (λ i l. sym (same_bytes copy bytes i h l)) ∙ is_copy e

      here : (agreeing copy bytes ≡ length bytes → ⊥) → Looks waiting k ((at, size) ∷ frames) s (some (offset_of (at, size) (agreeing copy bytes)))
      unfolding one
      here h =
          unlike (record { message = one; other = λ e. h (agree_stop copy bytes (ap (λ (l : List ℕ). get_elem? l (agreeing copy bytes)) e)) })
          (record {
            differs =
                record {
                  message = one;
                  byte = agreeing copy bytes;
                  within = inside;
                  at = refl;
                  other = λ e. h (agree_stop copy bytes e);
                };
            first = λ earlier l d.
                which waiting s k (at, size) frames d.message
                (λ e w.
                d.other
                (ap (λ (fr : ℕ × ℕ). get_elem? (bytes_at s fr) d.byte) (sym e)
                ∙ agree_same copy bytes d.byte (omega (arith, l, d.at, ap (λ (fr : ℕ × ℕ). fr.0) e))
                ∙ ap (λ (c : List ℕ). get_elem? c d.byte) (is_copy w)))
                (λ m e f. omega (arith, l, inside, d.at, behind m.place m.frame m.here, ap (λ (fr : ℕ × ℕ). fr.0) e));
          })
        where
          inside : agreeing copy bytes < size
          inside = omega (arith, agree_most copy bytes, long, h)

    look_one : {r : Option ℕ} → Looks waiting (k + 1) frames s r → (o : Option (List ℕ)) → waiting k ≡ o
        → Looks waiting k ((at, size) ∷ frames) s (elim (differ_at o bytes) [ none ↦ r | some byte ↦ some (offset_of (at, size) byte) ])
    look_one rest none e = past (λ copy f. absurd (none-ne-some copy (sym e ∙ f))) rest
    look_one {r} rest (some copy) e = go (eqb (agreeing copy bytes) (length bytes)) refl
      where
        go : (b : Bool) → eqb (agreeing copy bytes) (length bytes) ≡ b
            → Looks waiting k ((at, size) ∷ frames) s (elim (cond b none (some (agreeing copy bytes))) [ none ↦ r | some byte ↦ some (offset_of (at, size) byte) ])
        go true f = past (same copy e (eqb-true (agreeing copy bytes) (length bytes) f)) rest
        go false f = here copy e (eqb-false (agreeing copy bytes) (length bytes) f)

  looks : (n at k : ℕ) → walk_from n at s ≡ None → Looks waiting k (frames_from n at s) s (differ_from waiting k (frames_from n at s) s)
  unfolding frames_from differ_from
  looks zero at k walk = equal (λ d. none-ne-some _ d.message.here)
  looks (suc n) at k walk =
      let g : Goes s at (suc n) = goes s at (suc n) walk (omega arith) in
      let n' : suc n - 1 ≡ n = omega arith in
      let rest : walk_from n (at + size_at s at) s ≡ None = subst (λ (j : ℕ). walk_from j (at + size_at s at) s ≡ None) n' g.rest in
      look_one k at (size_at s at) (frames_from n (at + size_at s at) s) g.framed (from_start s n (at + size_at s at))
      (looks n (at + size_at s at) (k + 1) rest) (waiting k) refl

-- ---- a packet

-- a heartbeat that passes 5 has no messages
silent : (size flag messages : ℕ) → header.heartbeat flag ≡ true → (decided (flag_tests size flag messages)).0 ≡ 0 → messages ≡ 0
unfolding flag_tests
silent size flag messages beat h = go (eqb (flag / 2) 0) refl
  where
    counted : eqb (flag / 2) 0 ≡ true → eqb size 12 ≡ true → (b : Bool) → eqb messages 0 ≡ b → messages ≡ 0
    counted e₁ e₂ true e₃ = eqb-true messages 0 e₃
    counted e₁ e₂ false e₃ =
        let z : ◌≡◌ {A = ℕ} 5 0 = simp (e₁, beat, e₂, e₃) at h in
        absurd (omega arith)

    sized : eqb (flag / 2) 0 ≡ true → (b : Bool) → eqb size 12 ≡ b → messages ≡ 0
    sized e₁ true e₂ = counted e₁ e₂ (eqb messages 0) refl
    sized e₁ false e₂ =
        let z : ◌≡◌ {A = ℕ} 5 0 = simp (e₁, beat, e₂) at h in
        absurd (omega arith)

    go : (b : Bool) → eqb (flag / 2) 0 ≡ b → messages ≡ 0
    go true e = sized e (eqb size 12) refl
    go false e =
        let z : ◌≡◌ {A = ℕ} 4 0 = simp e at h in
        absurd (omega arith)

-- no test of a list has a number
abbrev without : ℕ → List Test → Bool
without n [] = true
without n (test ∷ tests) = not (eqb test.1.0 n) && without n tests

never_one : (b : Bool) (a rest : ℕ × ℕ) (n : ℕ) → not (eqb a.0 n) ≡ true → (rest.0 ≡ n → ⊥) → (cond b a rest).0 ≡ n → ⊥
never_one true a rest n other more h =
    let f : not (eqb a.0 n) ≡ false = simp (eq-eqb a.0 n h) in
    true≢false (sym other ∙ f)
never_one false a rest n other more h = more h

never : (n : ℕ) (tests : List Test) → (n ≡ 0 → ⊥) → without n tests ≡ true → (decided tests).0 ≡ n → ⊥
never n [] named h e = named (sym e)
never n (test ∷ tests) named h e =
    never_one test.0 test.1 (decided tests) n (and_left (not (eqb test.1.0 n)) (without n tests) h)
    (never n tests named (and_right (not (eqb test.1.0 n)) (without n tests) h)) e

-- a packet that 10 refuses has passed 1 to 9
pub ten_passes : {Table : Type 0} (x : State (List ℕ) Table) (s : List ℕ) → (decided (take_tests x s)).0 ≡ 10 → (decided (through_nine x s)).0 ≡ 0
unfolding take_tests packet_tests header_tests flag_tests body_tests
ten_passes x s h = go (eqb (decided (through_nine x s)).0 0) refl
  where
    all : (b : Bool) → without 10 ((header_tests s ++ unless_heartbeat b (body_tests (walk_from (header_in s).messages 12 s) (header_in s).seq (header_in s).messages)) ++ unless_heartbeat b (nine x s ∷ [])) ≡ true
    all true = refl
    all false = refl

    more : Bool → List Test
    more true = []
    more false = ten x s ∷ []

    apart : (b : Bool) → packet_tests s ++ unless_heartbeat b (wait_tests x s) ≡ (packet_tests s ++ unless_heartbeat b (nine x s ∷ [])) ++ more b
    apart true = sym (append-nil _)
    apart false = sym (append_assoc (packet_tests s) (nine x s ∷ []) (ten x s ∷ []))

    go : (b : Bool) → eqb (decided (through_nine x s)).0 0 ≡ b → (decided (through_nine x s)).0 ≡ 0
    go true e = eqb-true (decided (through_nine x s)).0 0 e
    go false e =
        let d : decided (take_tests x s) ≡ decided (through_nine x s) =
        ap decided (apart (header.heartbeat (header_in s).flag))
        ∙ joined (through_nine x s) (more (header.heartbeat (header_in s).flag)) (0, 0)
        ∙ decides (through_nine x s) (decided (more (header.heartbeat (header_in s).flag))) (eqb-false (decided (through_nine x s)).0 0 e) in
        absurd (never 10 (through_nine x s) (λ z. omega arith) (all (header.heartbeat (header_in s).flag)) (ap (λ (p : ℕ × ℕ). p.0) (sym d) ∙ h))

-- Test 10, of a session whose waiting messages are whole and lie within the window.
module _ {Table : Type 0} (x : State (List ℕ) Table) (s : List ℕ) (within : Within x.waiting x.next) (passing : (decided (through_nine x s)).0 ≡ 0) where
  abbrev beats : Bool
  beats = header.heartbeat (header_in s).flag

  both : ((decided (packet_tests s)).0 ≡ 0) × ((decided (unless_heartbeat beats (nine x s ∷ []))).0 ≡ 0)
  both = second (packet_tests s) (unless_heartbeat beats (nine x s ∷ [])) (packet_numbered s) passing

  left : decided (take_tests x s) ≡ decided (unless_heartbeat beats (wait_tests x s))
  unfolding take_tests
  left =
      joined (packet_tests s) (unless_heartbeat beats (wait_tests x s)) (0, 0)
      ∙ passes (packet_tests s) (decided (unless_heartbeat beats (wait_tests x s))) (packet_numbered s) both.0

  above : (d : Differing x s) → x.next ≤ (header_in s).seq + d.message.place
  above d =
      by_cases (dec_lt ((header_in s).seq + d.message.place) x.next)
      (λ l. absurd (none-ne-some d.message.copy (sym (within.low ((header_in s).seq + d.message.place) l) ∙ d.message.waits)))
      (λ l. omega arith)

  none-ten : decided (take_tests x s) ≡ (0, 0) → (Differing x s → ⊥) → Ten x s
  none-ten e never =
      record {
        given = λ d. absurd (never d);
        only = λ h. absurd (omega (arith, h, ap (λ (d : ℕ × ℕ). d.0) e));
        rests = λ h. absurd (omega (arith, h, ap (λ (d : ℕ × ℕ). d.0) e));
        taken = λ _. e;
        known = above;
      }

  by_found : (r : Option ℕ) → decided (take_tests x s) ≡ cond (is_some r) (10, or_zero r) (0, 0) → Looks x.waiting (header_in s).seq (frames_in s) s r → Ten x s
  by_found none e (equal never) = none-ten e never
  by_found (some offset) e (unlike d f) =
      record {
        given = λ _. ap (λ (d : ℕ × ℕ). d.0) e;
        only = λ _. d;
        rests = λ _. subst (FirstDiffering x s) (sym (ap (λ (d : ℕ × ℕ). d.1) e)) f;
        taken = λ never. absurd (never d);
        known = above;
      }

  beating : beats ≡ true → Differing x s → ⊥
  unfolding packet_tests frames_from
  beating e d =
      let body : List Test = body_tests (walk_from (header_in s).messages 12 s) (header_in s).seq (header_in s).messages in
      let flags = (passed s (second (header_tests s) (unless_heartbeat beats body) (header_numbered s) both.0).0).flags in
      let n : (header_in s).messages ≡ 0 = silent (header_in s).size (header_in s).flag (header_in s).messages e flags in
      none-ne-some d.message.frame (subst (λ (m : ℕ). get_elem? (frames_from m 12 s) d.message.place ≡ some d.message.frame) n d.message.here)

  pub ten_law : Ten x s
  ten_law = go beats refl
    where
      go : (b : Bool) → beats ≡ b → Ten x s
      go true e = none-ten (left ∙ ap (λ (b : Bool). decided (unless_heartbeat b (wait_tests x s))) e) (beating e)
      go false e =
          let one : (decided (nine x s ∷ [])).0 ≡ 0 = subst (λ (b : Bool). (decided (unless_heartbeat b (nine x s ∷ []))).0 ≡ 0) e both.1 in
          let nine-not : (nine x s).0 ≡ false = first_not (nine x s).0 9 2 [] (λ z. omega arith) one in
          let at : Option ℕ = differ_from x.waiting (header_in s).seq (frames_in s) s in
          let tests : decided (wait_tests x s) ≡ cond (is_some at) (10, or_zero at) (0, 0) =
          ap (λ (b : Bool). cond b (9, 2) (cond (is_some at) (10, or_zero at) (0, 0))) nine-not in
          by_found at (left ∙ ap (λ (b : Bool). decided (unless_heartbeat b (wait_tests x s))) e ∙ tests)
          (looks x.waiting within.whole s (header_in s).messages 12 (header_in s).seq (walks s both.0 e).walk)
