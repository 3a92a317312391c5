-- A text put at a place in steps of so many bytes, the last of which may lie over the one before.
-- Assumes nothing.
use mathlib.Core.Path.{◌≡◌, ap, ◌∙◌, sym}
use mathlib.Core.List.{List, [], ◌∷◌, ◌++◌, append_assoc}
use Prim.Native.Nat.{ℕ, ◌+◌, ◌-◌, ◌≤◌}
use native.Mathlib.Omega.{arith}
use lib.ListN.{length, take, drop, length-append, length-drop, take-append-drop}
use lib.Seq.{drop_at, drop-drop, length-take-le, take-add, take_all, take_at, take-take}
use Rattle.wire.specs.Number.{part, splice}
use Rattle.wire.proofs.Place.{length-splice, part-is, splice_next, splice-none}

-- put at the same place, the longer bytes stand
splice_again : (s : List ℕ) (at : ℕ) (xs ys : List ℕ) → length xs ≤ length ys → at + length ys ≤ length s → splice (splice s at xs) at ys ≡ splice s at ys
unfolding splice
splice_again s at xs ys shorter room =
    let n = at + length xs in
    let more = length ys - length xs in
    let all = take at s ++ (xs ++ drop n s) in
    let front : length (take at s ++ xs) ≡ n = length-append (take at s) xs ∙ ap (λ (k : ℕ). k + length xs) (length-take-le at s (omega arith)) in
    let on : n + more ≡ at + length ys = omega arith in
    let end : drop (n + more) (take at s ++ (xs ++ drop n s)) ≡ drop (n + more) s =
    sym (drop-drop more n all)
    ∙ ap (λ (l : List ℕ). drop more (drop n l)) (sym (append_assoc (take at s) xs (drop n s)))
    ∙ ap (drop more) (drop_at (take at s ++ xs) (drop n s) n front)
    ∙ drop-drop more n s in
    rw (take_at (take at s) (xs ++ drop n s) at (length-take-le at s (omega arith)), ← on, end)

-- the text put from its m-th byte on, over bytes that were put before
splice-over : (s : List ℕ) (at m : ℕ) (xs ys : List ℕ) → m ≤ length xs → length xs ≤ m + length ys → at + (m + length ys) ≤ length s → splice (splice s at xs) (at + m) ys ≡ splice s at (take m xs ++ ys)
splice-over s at m xs ys inside shorter room =
    let a = take m xs in
    let b = drop m xs in
    let long : length a ≡ m = length-take-le m xs inside in
    let one = splice s at a in
    let fits : length one ≡ length s = length-splice s at a (omega arith) in
    let front : splice (splice s at xs) (at + length a) ys ≡ splice s at (a ++ ys) =
    ap (λ (l : List ℕ). splice (splice s at l) (at + length a) ys) (sym (take-append-drop m xs))
    ∙ ap (λ (l : List ℕ). splice l (at + length a) ys) (sym (splice_next s at a b (omega arith)))
    ∙ splice_again one (at + length a) b ys (omega (arith, length-drop m xs)) (omega arith)
    ∙ splice_next s at a ys (omega arith) in
    ap (λ (n : ℕ). splice (splice s at xs) (at + n) ys) (sym long) ∙ front

-- the first k bytes of the text are put
pub record Copied (b : List ℕ) (at : ℕ) (t buf : List ℕ) (k : ℕ) : Type 0 where
  pub same : buf ≡ splice b at (take k t)
  pub within : k ≤ length t

module _ (b : List ℕ) (at : ℕ) (t : List ℕ) (room : at + length t ≤ length b) where
  pub copied_start : Copied b at t b 0
  copied_start = record { same = sym (splice-none b at); within = omega arith }

  module _ {buf : List ℕ} {k : ℕ} (p : Copied b at t buf k) where
    pub copied_long : length buf ≡ length b
    copied_long =
        let long = length-take-le k t p.within in
        ap length p.same ∙ length-splice b at (take k t) (omega (arith, p.within, long))

    pub copied_step : {after : List ℕ} (n : ℕ) → k + n ≤ length t → after ≡ splice buf (at + k) (part t k n) → Copied b at t after (k + n)
    copied_step {after} n left e =
        let long : length (take k t) ≡ k = length-take-le k t p.within in
        record {
          same =
              e
              ∙ ap (λ (l : List ℕ). splice l (at + k) (part t k n)) p.same
              ∙ ap (λ (m : ℕ). splice (splice b at (take k t)) (at + m) (part t k n)) (sym long)
              ∙ splice_next b at (take k t) (part t k n) (omega arith)
              ∙ ap (λ (l : List ℕ). splice b at (take k t ++ l)) (part-is t k n left)
              ∙ ap (splice b at) (sym (take-add k n t));
          within = left;
        }

    pub copied_end : {after : List ℕ} (n last : ℕ) → last + n ≡ length t → last ≤ k → after ≡ splice buf (at + last) (part t last n) → after ≡ splice b at t
    copied_end {after} n last whole inside e =
        let long : length (take k t) ≡ k = length-take-le k t p.within in
        let rest : part t last n ≡ drop last t = part-is t last n (omega arith) ∙ take_all n (drop last t) (omega (arith, length-drop last t)) in
        let size : length (drop last t) ≡ n = omega (arith, length-drop last t) in
        e
        ∙ ap (λ (l : List ℕ). splice l (at + last) (part t last n)) p.same
        ∙ ap (splice (splice b at (take k t)) (at + last)) rest
        ∙ splice-over b at last (take k t) (drop last t) (omega arith) (omega (arith, p.within)) (omega arith)
        ∙ ap (λ (l : List ℕ). splice b at (l ++ drop last t)) (take-take last k t inside)
        ∙ ap (splice b at) (take-append-drop last t)

-- a text of no byte
pub put_none : (b : List ℕ) (at : ℕ) (t : List ℕ) → length t ≡ 0 → b ≡ splice b at t
put_none b at [] none = sym (splice-none b at)
put_none b at (x ∷ xs) none = absurd (omega (arith, none))
