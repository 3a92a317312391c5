-- Copies of a message: which packet has one, which number was carried, and the first copy once a packet more is accepted.
-- Assumes nothing.
use Prim.Native.Nat.{ℕ, zero, suc, ◌+◌, ◌-◌, ◌≤◌, ◌<◌, max}
use native.Mathlib.Decide.{dec_lt, ℕ_discrete}
use native.Mathlib.Omega.{arith}
use mathlib.Core.Path.{◌≡◌, refl, sym, ap, ◌∙◌}
use mathlib.Core.Bool.{Bool, true, false, cond}
use mathlib.Core.List.{List, [], ◌∷◌, ◌++◌}
use mathlib.Core.Logic.{by_cases}
use mathlib.Core.Option.{Option, none, some, none-ne-some}
use borrow.Author.Tests.{leb-true, leb-false, le-leb}
use lib.Dec.{leb}
use lib.ListN.{length, get_elem?}
use Rattle.merge.specs.State.{Packet, end_of, copy_of, first_there, packet, single}
use Rattle.merge.specs.History.{Carries, Carried, here, later, first_copy, largest_end}

-- A choice whose test is known.
pub chosen {ℓ} : {A : Type ℓ} {t u : Bool} (a b : A) → t ≡ u → cond t a b ≡ cond u a b
chosen a b e = ap (λ (v : Bool). cond v a b) e

module _ {Msg : Type 0} where
  -- There is a copy exactly if P holds.
  pub data Told (o : Option Msg) (P : Type 0) : Type 0 where
    there : (m : Msg) → o ≡ some m → P → Told o P
    nowhere : o ≡ none → ¬ P → Told o P

  pub told_yes : {o : Option Msg} {P : Type 0} {m : Msg} → Told o P → o ≡ some m → P
  told_yes (there m e p) f = p
  told_yes (nowhere e n) f = absurd (none-ne-some _ (sym e ∙ f))

  pub told_no : {o : Option Msg} {P : Type 0} → Told o P → o ≡ none → ¬ P
  told_no (there m e p) f = absurd (none-ne-some _ (sym f ∙ e))
  told_no (nowhere e n) f = n

  pub told_none : {o : Option Msg} {P : Type 0} → Told o P → ¬ P → o ≡ none
  told_none (there m e p) n = absurd (n p)
  told_none (nowhere e q) n = e

  pub told_copy : {o : Option Msg} {P : Type 0} → Told o P → P → (m : Msg) × (o ≡ some m)
  told_copy (there m e p) q = (m, e)
  told_copy (nowhere e n) q = absurd (n q)

  told_iff : {o o' : Option Msg} {P Q : Type 0} → o ≡ o' → (P → Q) → (Q → P) → Told o P → Told o' Q
  told_iff e to of (there m f p) = there m (sym e ∙ f) (to p)
  told_iff e to of (nowhere f n) = nowhere (sym e ∙ f) (λ q. n (of q))

  -- A list has an element at i exactly if i is below its length.
  element : (l : List Msg) (i : ℕ) → Told (get_elem? l i) (i < length l)
  element [] i = nowhere refl (omega arith)
  element (a ∷ l) zero = there a refl (omega arith)
  element (a ∷ l) (suc i) = told_iff refl (λ h. omega arith) (λ h. omega arith) (element l i)

  copy_by : (p : Packet Msg) (k : ℕ) (t : Bool) → leb p.first k ≡ t
      → Told (cond t (get_elem? p.messages (k - p.first)) none) (Carries p k)
  copy_by p k true e =
      told_iff refl
      (λ h. let l : p.first ≤ k = leb-true p.first k e in record { low = l; high = omega arith })
      (λ c. omega (arith, c.low, c.high))
      (element p.messages (k - p.first))
  copy_by p k false e = nowhere refl (λ c. omega (arith, leb-false p.first k e, c.low))

  -- A packet has a copy of message k exactly if it carries k.
  pub copy_told : (p : Packet Msg) (k : ℕ) → Told (copy_of p k) (Carries p k)
  unfolding copy_of
  copy_told p k = copy_by p k (leb p.first k) refl

  copy_from : (p : Packet Msg) (k : ℕ) → p.first ≤ k → copy_of p k ≡ get_elem? p.messages (k - p.first)
  unfolding copy_of
  copy_from p k hi = chosen _ _ (le-leb p.first k hi)

  pub copy_head : (n : ℕ) (m : Msg) (ms : List Msg) → copy_of (packet n (m ∷ ms)) n ≡ some m
  copy_head n m ms =
      let z : n - n ≡ 0 = omega arith in
      copy_from (packet n (m ∷ ms)) n (omega arith) ∙ ap (get_elem? (m ∷ ms)) z

  pub copy_none : (p : Packet Msg) (k : ℕ) → ¬ Carries p k → copy_of p k ≡ none
  copy_none p k n = told_none (copy_told p k) n

  pub copy_other : (k : ℕ) (m : Msg) (j : ℕ) → ¬ (j ≡ k) → copy_of (single k m) j ≡ none
  copy_other k m j ne = copy_none (single k m) j (λ c. ne (omega (arith, c.low, c.high)))

  -- The copies of a packet are that of its first message and those of the rest.
  pub copy_cons : (n : ℕ) (m : Msg) (ms : List Msg) (k : ℕ)
      → copy_of (packet n (m ∷ ms)) k ≡ first_there (copy_of (single n m) k) (copy_of (packet (n + 1) ms) k)
  copy_cons n m ms k = by_cases (ℕ_discrete k n) at λ ne. by_cases (dec_lt k n) (before ne) (λ l. behind ne (omega arith))
    where
      Split : Type 0
      Split = copy_of (packet n (m ∷ ms)) k ≡ first_there (copy_of (single n m) k) (copy_of (packet (n + 1) ms) k)

      at : k ≡ n → Split
      at e = cc (copy_head n m ms, copy_head n m [])

      before : ¬ (k ≡ n) → k < n → Split
      before ne l =
          let whole = copy_none (packet n (m ∷ ms)) k (λ c. omega (arith, c.low)) in
          let rest = copy_none (packet (n + 1) ms) k (λ c. omega (arith, c.low)) in
          cc (copy_other n m k ne)

      behind : ¬ (k ≡ n) → n ≤ k → Split
      behind ne l =
          let place : k - n ≡ suc (k - (n + 1)) = omega arith in
          cc (copy_from (packet n (m ∷ ms)) k l, copy_other n m k ne, copy_from (packet (n + 1) ms) k (omega arith))

  -- Behind its first number a packet is the rest of it.
  pub copy_rest : (n : ℕ) (m : Msg) (ms : List Msg) (k : ℕ) → ¬ (k ≡ n)
      → copy_of (packet n (m ∷ ms)) k ≡ copy_of (packet (n + 1) ms) k
  copy_rest n m ms k ne = cc (copy_cons n m ms k, copy_other n m k ne)

  carried-cons : {p : Packet Msg} {h : List (Packet Msg)} {k : ℕ} → ¬ Carries p k → Carried k (p ∷ h) → Carried k h
  carried-cons n (here c) = absurd (n c)
  carried-cons n (later c) = c

  first_by : {p : Packet Msg} {h : List (Packet Msg)} {k : ℕ} {o : Option Msg} → Told o (Carries p k) → Told (first_copy h k) (Carried k h)
      → Told (first_there o (first_copy h k)) (Carried k (p ∷ h))
  first_by {h = h} {k = k} (there m e c) t = there m (ap (λ (o : Option Msg). first_there o (first_copy h k)) e) (here c)
  first_by {h = h} {k = k} (nowhere e n) t =
      told_iff (sym (ap (λ (o : Option Msg). first_there o (first_copy h k)) e)) later (carried-cons n) t

  -- There is a first copy of message k exactly if k was carried.
  pub first_told : (h : List (Packet Msg)) (k : ℕ) → Told (first_copy h k) (Carried k h)
  unfolding first_copy
  first_told [] k = nowhere refl (λ c. elim c [ ])
  first_told (p ∷ h) k = first_by (copy_told p k) (first_told h k)

  -- A packet more, behind the others.
  pub carried_more : {k : ℕ} {h : List (Packet Msg)} (l : List (Packet Msg)) → Carried k h → Carried k (h ++ l)
  carried_more l (here c) = here c
  carried_more l (later c) = later (carried_more l c)

  pub carried_last : (h : List (Packet Msg)) {p : Packet Msg} {k : ℕ} → Carries p k → Carried k (h ++ (p ∷ []))
  carried_last [] c = here c
  carried_last (q ∷ h) c = later (carried_last h c)

  pub first_none : (o : Option Msg) → first_there o none ≡ o
  first_none none = refl
  first_none (some m) = refl

  pub first_assoc : (a b c : Option Msg) → first_there a (first_there b c) ≡ first_there (first_there a b) c
  first_assoc none b c = refl
  first_assoc (some m) b c = refl

  pub first_last : (h : List (Packet Msg)) (p : Packet Msg) (k : ℕ)
      → first_copy (h ++ (p ∷ [])) k ≡ first_there (first_copy h k) (copy_of p k)
  unfolding first_copy
  first_last [] p k = first_none (copy_of p k)
  first_last (q ∷ h) p k =
      ap (first_there (copy_of q k)) (first_last h p k) ∙ first_assoc (copy_of q k) (first_copy h k) (copy_of p k)

  -- What was carried keeps its first copy.
  pub first_stays : (h : List (Packet Msg)) (p : Packet Msg) (k : ℕ) → Carried k h → first_copy (h ++ (p ∷ [])) k ≡ first_copy h k
  first_stays h p k c =
      let e = told_copy (first_told h k) c in
      first_last h p k ∙ ap (λ (o : Option Msg). first_there o (copy_of p k)) e.1 ∙ sym e.1

  pub end_last : (s : ℕ) (h : List (Packet Msg)) (p : Packet Msg) → largest_end s (h ++ (p ∷ [])) ≡ max (largest_end s h) (end_of p)
  unfolding largest_end
  end_last s [] p = omega arith
  end_last s (q ∷ h) p = omega (arith, end_last s h p)
