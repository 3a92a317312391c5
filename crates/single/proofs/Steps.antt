-- Number after number of a message: told from its bytes, and put into bytes.
-- Assumes nothing.
use mathlib.Core.Path.{◌≡◌, refl, ap, ◌∙◌, sym, subst}
use mathlib.Core.Bool.{Bool, true, false, ◌||◌}
use mathlib.Core.List.{List, [], ◌∷◌}
use Prim.Native.Nat.{ℕ, zero, suc, ◌+◌, ◌^◌, ◌≤◌, ◌<◌}
use native.Mathlib.Omega.{arith}
use borrow.Author.Tests.{leb-false}
use lib.Dec.{leb}
use lib.ListN.{drop, drop_of_length-le, get_or, length, set}
use Rattle.wire.specs.Number.{be, num, part, splice}
use Rattle.wire.proofs.Digits.{length-be}
use Rattle.wire.proofs.Place.{length-splice, splice_next, splice-none}
use Rattle.single.specs.Given.{bytes_from, wide_from}
use Rattle.single.specs.Over.{over_from}
use Rattle.single.specs.Words.{bytes_in, counts, total, words_at, Laid}
use Rattle.single.specs.declared.words.Width.{Width}
use Rattle.single.specs.declared.words.Width.TheVariants.{One}

one_more : (l : List Width) (k : ℕ) → k < length l → drop k l ≡ get_or l k One ∷ drop (suc k) l
one_more [] k h = absurd (omega arith)
one_more (x ∷ l) zero h = refl
one_more (x ∷ l) (suc k) h = one_more l k (omega arith)

length-counts : (ws : List Width) → length (counts ws) ≡ length ws
length-counts [] = refl
length-counts (w ∷ ws) = ap suc (length-counts ws)

-- the widths that are left behind the first k: n bytes have room for them from a place on
pub record Left (ws : List Width) (n at k : ℕ) : Type 0 where
  pub most : length ws ≤ 13
  pub room : at + total (counts (drop k ws)) ≤ n

pub left_all : {ws : List Width} {n : ℕ} → Laid (counts ws) n → Left ws n 3 0
left_all {ws} laid = record { most = omega (arith, laid.most, length-counts ws); room = laid.room }

module _ (ws : List Width) (n at k : ℕ) (g : Left ws n at k) where
  module _ (h : k < length ws) where
    pub next : drop k ws ≡ get_or ws k One ∷ drop (k + 1) ws
    next =
        let up : suc k ≡ k + 1 = omega arith in
        one_more ws k h ∙ ap (λ (j : ℕ). get_or ws k One ∷ drop j ws) up

    sums : at + (bytes_in (get_or ws k One) + total (counts (drop (k + 1) ws))) ≤ n
    sums = subst (λ (l : List Width). at + total (counts l) ≤ n) next g.room

    pub fits : at + bytes_in (get_or ws k One) ≤ n
    fits = omega (arith, sums)

    pub left_more : Left ws n (at + bytes_in (get_or ws k One)) (k + 1)
    left_more = record { most = g.most; room = omega (arith, sums) }

  pub left_none : length ws ≤ k → drop k ws ≡ []
  left_none h = drop_of_length-le ws {i = k} h

-- ---- told from bytes

pub record Telling (words : List Width) (s old told : List ℕ) (at k : ℕ) : Type 0 where
  pub left : Left words (length s) at k
  pub rest : over_from (k + 1) (words_at (counts (drop k words)) at s) told ≡ over_from 1 (words_at (counts words) 3 s) old

pub tell_none : (words : List Width) (s old : List ℕ) → Laid (counts words) (length s) → Telling words s old old 3 0
tell_none words s old laid = record { left = left_all laid; rest = refl }

module _ (words : List Width) (s old told : List ℕ) (at k : ℕ) (g : Telling words s old told at k) where
  pub tell_more : k < length words → {n b : ℕ} → n ≡ num (part s at (bytes_in (get_or words k One))) → b ≡ bytes_in (get_or words k One) → Telling words s old (set told (k + 1) n) (at + b) (k + 1)
  tell_more h {n} is wide =
      let w = bytes_in (get_or words k One) in
      let ws = counts (drop (k + 1) words) in
      let up : k + 1 + 1 ≡ suc (k + 1) = omega arith in
      subst (λ (b : ℕ). Telling words s old (set told (k + 1) n) (at + b) (k + 1)) (sym wide)
      (record {
        left = left_more words (length s) at k g.left h;
        rest =
            ap (λ (j : ℕ). over_from j (words_at ws (at + w) s) (set told (k + 1) n)) up
            ∙ ap (λ (m : ℕ). over_from (suc (k + 1)) (words_at ws (at + w) s) (set told (k + 1) m)) is
            ∙ sym (ap (λ (l : List Width). over_from (k + 1) (words_at (counts l) at s) told) (next words (length s) at k g.left h))
            ∙ g.rest;
      })

  pub tell_all_lem : length words ≤ k → told ≡ over_from 1 (words_at (counts words) 3 s) old
  tell_all_lem h = sym (ap (λ (l : List Width). over_from (k + 1) (words_at (counts l) at s) told) (left_none words (length s) at k g.left h)) ∙ g.rest

-- ---- put into bytes

pub record Filling (words : List Width) (ns old bytes : List ℕ) (at k : ℕ) : Type 0 where
  pub left : Left words (length bytes) at k
  pub same : length bytes ≡ length old
  pub wide : wide_from (counts (drop k words)) (k + 1) ns ≡ wide_from (counts words) 1 ns
  pub rest : splice bytes at (bytes_from (counts (drop k words)) (k + 1) ns) ≡ splice old 3 (bytes_from (counts words) 1 ns)

pub fill_none : (words : List Width) (ns old : List ℕ) → Laid (counts words) (length old) → Filling words ns old old 3 0
fill_none words ns old laid = record { left = left_all laid; same = refl; wide = refl; rest = refl }

module _ (words : List Width) (ns old bytes : List ℕ) (at k : ℕ) (g : Filling words ns old bytes at k) where
  module _ (h : k < length words) {r : Bool} (told : r ≡ leb (256 ^ bytes_in (get_or words k One)) (get_or ns (k + 1) 0)) where
    split : (leb (256 ^ bytes_in (get_or words k One)) (get_or ns (k + 1) 0) || wide_from (counts (drop (k + 1) words)) (suc (k + 1)) ns) ≡ wide_from (counts words) 1 ns
    split = sym (ap (λ (l : List Width). wide_from (counts l) (k + 1) ns) (next words (length bytes) at k g.left h)) ∙ g.wide

    pub fill_wide : r ≡ true → true ≡ wide_from (counts words) 1 ns
    fill_wide e = sym (ap (λ (b : Bool). b || wide_from (counts (drop (k + 1) words)) (suc (k + 1)) ns) (sym told ∙ e)) ∙ split

    module _ (e : r ≡ false) where
      pub fill_fits : get_or ns (k + 1) 0 < 256 ^ bytes_in (get_or words k One)
      fill_fits = leb-false _ _ (sym told ∙ e)

      pub fill_more : {after : List ℕ} {b : ℕ} → after ≡ splice bytes at (be (bytes_in (get_or words k One)) (get_or ns (k + 1) 0)) → b ≡ bytes_in (get_or words k One) → Filling words ns old after (at + b) (k + 1)
      fill_more {after} put is =
          let w = bytes_in (get_or words k One) in
          let n = get_or ns (k + 1) 0 in
          let ws = counts (drop (k + 1) words) in
          let up : k + 1 + 1 ≡ suc (k + 1) = omega arith in
          let wide : length (be w n) ≡ w = length-be w n in
          let within : at + w ≤ length bytes = fits words (length bytes) at k g.left h in
          let long : length after ≡ length bytes = ap length put ∙ length-splice bytes at (be w n) (omega (arith, wide, within)) in
          subst (λ (b : ℕ). Filling words ns old after (at + b) (k + 1)) (sym is)
          (record {
            left = subst (λ (m : ℕ). Left words m (at + w) (k + 1)) (sym long) (left_more words (length bytes) at k g.left h);
            same = long ∙ g.same;
            wide =
                ap (λ (j : ℕ). wide_from ws j ns) up
                ∙ sym (ap (λ (b : Bool). b || wide_from ws (suc (k + 1)) ns) (sym told ∙ e))
                ∙ split;
            rest =
                ap (λ (j : ℕ). splice after (at + w) (bytes_from ws j ns)) up
                ∙ ap (λ (l : List ℕ). splice l (at + w) (bytes_from ws (suc (k + 1)) ns)) put
                ∙ ap (λ (m : ℕ). splice (splice bytes at (be w n)) (at + m) (bytes_from ws (suc (k + 1)) ns)) (sym wide)
                ∙ splice_next bytes at (be w n) (bytes_from ws (suc (k + 1)) ns) (omega (arith, within))
                ∙ sym (ap (λ (l : List Width). splice bytes at (bytes_from (counts l) (k + 1) ns)) (next words (length bytes) at k g.left h))
                ∙ g.rest;
          })

  module _ (h : length words ≤ k) where
    pub fill_good : false ≡ wide_from (counts words) 1 ns
    fill_good = sym (ap (λ (l : List Width). wide_from (counts l) (k + 1) ns) (left_none words (length bytes) at k g.left h)) ∙ g.wide

    pub fill_all : bytes ≡ splice old 3 (bytes_from (counts words) 1 ns)
    fill_all =
        sym (splice-none bytes at)
        ∙ sym (ap (λ (l : List Width). splice bytes at (bytes_from (counts l) (k + 1) ns)) (left_none words (length bytes) at k g.left h))
        ∙ g.rest
