-- The messages of a packet kept one after the other.
-- Assumes nothing.
use mathlib.Core.Path.{◌≡◌, refl, ap, ◌∙◌, sym, subst}
use mathlib.Core.Bool.{cond, not, ◌&&◌}
use mathlib.Core.List.{List, [], ◌∷◌, map}
use mathlib.Core.Logic.{by_cases}
use mathlib.Core.Option.{Option, none, some}
use Prim.Native.Nat.{ℕ, ◌+◌, ◌-◌, ◌≤◌, ◌<◌}
use native.Mathlib.Decide.{dec_lt, ℕ_discrete}
use native.Mathlib.Omega.{arith}
use lib.Dec.{ltb}
use lib.ListN.{length, take, drop}
use Rattle.wire.specs.Number.{part}
use Rattle.merge.specs.State.{Packet, State, copy_of, count_from, first_there, fresh_at, fresh_in, is_there, keep, kept_at, packet, single}
use Rattle.merge.proofs.Clauses.{fresh-cons, fresh-none, fresh_small, keep-cons, keep-heartbeat, kept_new, kept_none, kept_old}
use Rattle.merge.proofs.Copies.{copy_head, copy_other}
use Rattle.packet.specs.Walk.{frames_from, size_at, walk_from}
use Rattle.std.specs.Prelude.{None}
use Rattle.message.specs.Whole.{Whole}
use Rattle.window_taking.specs.Taking.{bytes_at}
use Rattle.window_taking.specs.Keeping.{waiting_of, window_for, state_of, Neat, Framed, Passed}
use Rattle.window.proofs.Agreeing.{lent}
use Rattle.window_taking.proofs.Walks.{Goes, goes}
use Rattle.window_taking.proofs.Windows.{Within, neat_for, waiting_for, within_neat}

-- what waits once a packet is kept depends on what waits and on next alone
pub same_kept : {Table Other : Type 0} (x : State (List ℕ) Table) (y : State (List ℕ) Other) (p : Packet (List ℕ)) → x.next ≡ y.next → x.waiting ≡ y.waiting → (keep x p).waiting ≡ (keep y p).waiting
unfolding keep kept_at
same_kept x y p n e = λ i k. cond (ltb k (n i)) (e i k) (first_there (e i k) (copy_of p k))

-- so do the numbers that are fresh
pub same-fresh : {Table Other : Type 0} (x : State (List ℕ) Table) (y : State (List ℕ) Other) (p : Packet (List ℕ)) → x.next ≡ y.next → x.waiting ≡ y.waiting → fresh_in x p ≡ fresh_in y p
unfolding fresh_in fresh_at
same-fresh x y p n e = λ i. count_from (λ k. not (is_there (e i k)) && is_there (same_kept x y p n e i k)) p.first (length p.messages)

-- a message kept leaves all that waits whole and within the window
module _ {waiting : ℕ → Option (List ℕ)} {next : ℕ} (within : Within waiting next) (k : ℕ) (m : List ℕ) (near : k < next + 256) (whole : Whole m) where
  abbrev x : State (List ℕ) (Unit {0})
  x = record { next = next; end = next; waiting = waiting; tables = tt }

  new : (o : Option (List ℕ)) (m' : List ℕ) → ((a : List ℕ) → o ≡ some a → Whole a) → first_there o (some m) ≡ some m' → Whole m'
  new none m' h e = let q : m ≡ m' = cc in subst Whole q whole
  new (some a) m' h e = let q : a ≡ m' = cc in subst Whole q (h a refl)

  pub within_keep : Within (keep x (single k m)).waiting next
  unfolding keep
  within_keep =
      record {
        low = λ j l. kept_old x (single k m) j l ∙ within.low j l;
        high = λ j l. kept_none x (single k m) j (copy_other k m j (λ e. omega arith)) ∙ within.high j l;
        whole =
            λ j m' e.
            by_cases (ℕ_discrete j k)
            (λ q.
            by_cases (dec_lt j next)
            (λ l. within.whole j m' (sym (kept_old x (single k m) j l) ∙ e))
            (λ l. new (waiting j) m' (λ a f. within.whole j a f) (sym (kept_new x (single k m) j (omega arith) ∙ ap (first_there (waiting j)) (ap (copy_of (single k m)) q ∙ copy_head k m [])) ∙ e)))
            (λ ne. within.whole j m' (sym (kept_none x (single k m) j (copy_other k m j ne)) ∙ e));
      }

-- the packet of the messages that are left
abbrev pub left_of : List ℕ → ℕ → ℕ → ℕ → Packet (List ℕ)
left_of s k at left = packet k (map (bytes_at s) (frames_from left at s))

abbrev pub kept_window : List ℕ → ℕ → Packet (List ℕ) → List ℕ
kept_window w next p = window_for (keep (state_of w next next) p).waiting next

pub record Going (w₀ w s : List ℕ) (next first messages at k left fresh : ℕ) : Type 0 where
  pub neat : Neat w next
  pub walk : walk_from left at s ≡ None
  pub near : k + left ≤ next + 256
  pub rest : kept_window w₀ next (left_of s first 12 messages) ≡ kept_window w next (left_of s k at left)
  pub few : fresh ≤ k
  pub count : fresh_in (state_of w₀ next next) (left_of s first 12 messages) ≡ fresh + fresh_in (state_of w next next) (left_of s k at left)

pub going_start : {w s : List ℕ} {next first messages : ℕ} → Neat w next → Passed s next first messages → {left : ℕ} → left ≡ messages → Going w w s next first messages 12 first left 0
going_start {w} {s} {next} {first} {messages} neat passed all =
    subst (λ (n : ℕ). Going w w s next first messages 12 first n 0) (sym all)
    (record { neat = neat; walk = passed.walk; near = passed.near; rest = refl; few = omega arith; count = omega arith })

pub going_end : {w₀ w s : List ℕ} {next first messages at k left fresh : ℕ} → Going w₀ w s next first messages at k left fresh → left ≤ 0 → w ≡ kept_window w₀ next (left_of s first 12 messages)
unfolding frames_from
going_end {w₀} {w} {s} {next} {first} {messages} {at} {k} {left} g done =
    let z : left ≡ 0 = omega arith in
    let nothing : kept_window w next (left_of s k at 0) ≡ window_for (waiting_of w next) next =
    ap (λ (y : State (List ℕ) (Unit {0})). window_for y.waiting next) (keep-heartbeat (state_of w next next) k) in
    g.neat.same ∙ sym (g.rest ∙ ap (λ (n : ℕ). kept_window w next (left_of s k at n)) z ∙ nothing)

pub count_end : {w₀ w s : List ℕ} {next first messages at k left fresh : ℕ} → Going w₀ w s next first messages at k left fresh → left ≤ 0 → fresh ≡ fresh_in (state_of w₀ next next) (left_of s first 12 messages)
unfolding frames_from
count_end {w₀} {w} {s} {next} {first} {messages} {at} {k} {left} {fresh} g done =
    let z : left ≡ 0 = omega arith in
    let nothing : fresh_in (state_of w next next) (left_of s k at left) ≡ 0 = ap (λ (n : ℕ). fresh_in (state_of w next next) (left_of s k at n)) z ∙ fresh-none (state_of w next next) k in
    omega (arith, g.count, nothing)

module _ {w₀ w s : List ℕ} {next first messages at k left fresh size : ℕ} (g : Going w₀ w s next first messages at k left fresh) (some : 0 < left) (told : size ≡ size_at s at) where
  there : Goes s at left
  there = goes s at left g.walk some

  pub framed : Framed s at size
  framed = subst (Framed s at) (sym told) there.framed

  -- as a slice lends it
  pub lent_here : take (at + size - at) (drop at s) ≡ part s at size
  lent_here = lent s at size framed.within

  pub whole_here : Whole (take (at + size - at) (drop at s))
  whole_here = subst Whole (sym lent_here) framed.whole

  pub near : k < next + 256
  near = omega (arith, g.near)

  pub one_small : {one : ℕ} → one ≡ fresh_in (state_of w next next) (single k (take (at + size - at) (drop at s))) → one ≤ 1
  one_small is = omega (arith, is, fresh_small (state_of w next next) k (take (at + size - at) (drop at s)))

  pub going_next : {after : List ℕ} {one : ℕ} → one ≡ fresh_in (state_of w next next) (single k (take (at + size - at) (drop at s))) → after ≡ kept_window w next (single k (take (at + size - at) (drop at s))) → {fewer : ℕ} → fewer ≡ left - 1 → Going w₀ after s next first messages (at + size) (k + 1) fewer (fresh + one)
  unfolding keep
  going_next {after} {one} told_ones told_is less =
      let m : List ℕ = part s at size in
      let x : State (List ℕ) (Unit {0}) = state_of w next next in
      let ones : one ≡ fresh_in x (single k m) = told_ones ∙ ap (λ (l : List ℕ). fresh_in x (single k l)) lent_here in
      let is : after ≡ kept_window w next (single k m) = told_is ∙ ap (λ (l : List ℕ). kept_window w next (single k l)) lent_here in
      let y : State (List ℕ) (Unit {0}) = keep x (single k m) in
      let within : Within y.waiting next = within_keep (within_neat g.neat) k m near framed.whole in
      let holds : waiting_of after next ≡ y.waiting = ap (λ (l : List ℕ). waiting_of l next) is ∙ waiting_for within in
      let ms : List (List ℕ) = map (bytes_at s) (frames_from (left - 1) (at + size) s) in
      let frames : map (bytes_at s) (frames_from left at s) ≡ m ∷ ms =
      ap (map (bytes_at s)) there.frames ∙ ap (λ (n : ℕ). map (bytes_at s) ((at, n) ∷ frames_from (left - 1) (at + n) s)) (sym told) in
      let kept : (keep x (packet k (m ∷ ms))).waiting ≡ (keep (state_of after next next) (packet (k + 1) ms)).waiting =
      ap (λ (z : State (List ℕ) (Unit {0})). z.waiting) (keep-cons x k m ms) ∙ same_kept y (state_of after next next) (packet (k + 1) ms) refl (sym holds) in
      let counts : fresh_in x (packet k (m ∷ ms)) ≡ fresh_in x (single k m) + fresh_in (state_of after next next) (packet (k + 1) ms) =
      fresh-cons x k m ms ∙ ap (λ (n : ℕ). fresh_in x (single k m) + n) (same-fresh y (state_of after next next) (packet (k + 1) ms) refl (sym holds)) in
      subst (λ (n : ℕ). Going w₀ after s next first messages (at + size) (k + 1) n (fresh + one)) (sym less)
      (record {
        neat = subst (λ (l : List ℕ). Neat l next) (sym is) (neat_for within g.neat.top);
        walk = subst (λ (n : ℕ). walk_from (left - 1) (at + n) s ≡ None) (sym told) there.rest;
        near = omega (arith, g.near);
        rest = g.rest ∙ ap (λ (l : List (List ℕ)). kept_window w next (packet k l)) frames ∙ ap (λ (f : ℕ → Option (List ℕ)). window_for f next) kept;
        few = omega (arith, g.few, ones, fresh_small x k m);
        count = omega (arith, g.count, ap (λ (l : List (List ℕ)). fresh_in x (packet k l)) frames, counts, ones);
      })

  pub room : at + 2 ≤ length s
  room = omega (arith, there.framed.within, there.least)

  pub far : at + size ≤ length s
  far = framed.within
