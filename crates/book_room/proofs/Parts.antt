-- A room by its parts: a part is read, an element of it is read and set, and another takes its place.
-- Assumes nothing.
use mathlib.Core.Path.{◌≡◌, refl, ap, ap₂, ◌∙◌, sym}
use mathlib.Core.List.{List, [], ◌∷◌, ◌++◌, append_assoc}
use Prim.Native.Nat.{ℕ, suc, ◌+◌, ◌<◌}
use native.Mathlib.Omega.{arith}
use lib.ListN.{length, get_or, set, take, drop, length-append, get_or-append}
use lib.Seq.{take_at, drop_at, get_or-append-add, set-append_left}
use Rattle.book_room.specs.Room.{parts_of}

-- ---- one part, between what stands before it and behind it

pub record Cut (whole : List ℕ → List ℕ) (at : ℕ) : Type 0 where
  pub front : List ℕ
  pub rest : List ℕ
  pub long : length front ≡ at
  pub is : (part : List ℕ) → whole part ≡ front ++ (part ++ rest)

pub set_past : (a b : List ℕ) (i x : ℕ) → set (a ++ b) (length a + i) x ≡ a ++ set b i x
set_past [] b i x = ap (λ (k : ℕ). set b k x) (omega arith)
set_past (y ∷ a) b i x =
    let e : suc (length a) + i ≡ suc (length a + i) = omega arith in
    ap (λ (k : ℕ). set (y ∷ (a ++ b)) k x) e ∙ ap (λ (l : List ℕ). y ∷ l) (set_past a b i x)

module _ {whole : List ℕ → List ℕ} {at : ℕ} (cut : Cut whole at) (part : List ℕ) where
  pub get_part : (i : ℕ) → i < length part → get_or (whole part) (at + i) 0 ≡ get_or part i 0
  get_part i h =
      ap₂ (λ (l : List ℕ) (n : ℕ). get_or l (n + i) 0) (cut.is part) (sym cut.long)
      ∙ get_or-append-add cut.front (part ++ cut.rest) i 0
      ∙ get_or-append part cut.rest 0 i h

  pub set-part : (i x : ℕ) → i < length part → set (whole part) (at + i) x ≡ whole (set part i x)
  set-part i x h =
      ap₂ (λ (l : List ℕ) (n : ℕ). set l (n + i) x) (cut.is part) (sym cut.long)
      ∙ set_past cut.front (part ++ cut.rest) i x
      ∙ ap (λ (l : List ℕ). cut.front ++ l) (set-append_left part cut.rest i x h)
      ∙ sym (cut.is (set part i x))

  pub read_part : (k : ℕ) → length part ≡ k → take k (drop at (whole part)) ≡ part
  read_part k l =
      ap (λ (r : List ℕ). take k (drop at r)) (cut.is part)
      ∙ ap (take k) (drop_at cut.front (part ++ cut.rest) at cut.long)
      ∙ take_at part cut.rest k l

  pub put_part : (k : ℕ) (new : List ℕ) → length part ≡ k → take at (whole part) ++ (new ++ drop k (drop at (whole part))) ≡ whole new
  put_part k new l =
      ap (λ (r : List ℕ). take at r ++ (new ++ drop k (drop at r))) (cut.is part)
      ∙ ap₂ (λ (a b : List ℕ). a ++ (new ++ drop k b)) (take_at cut.front (part ++ cut.rest) at cut.long) (drop_at cut.front (part ++ cut.rest) at cut.long)
      ∙ ap (λ (r : List ℕ). cut.front ++ (new ++ r)) (drop_at part cut.rest k l)
      ∙ sym (cut.is new)

-- ---- the seven parts

pub record Sized (n k i s f b r : List ℕ) : Type 0 where
  pub numbers : length n ≡ 10
  pub keys : length k ≡ 256
  pub index : length i ≡ 765
  pub symbols : length s ≡ 765
  pub fronts : length f ≡ 64
  pub backs : length b ≡ 64
  pub rows : length r ≡ 384

module _ {n k i s f b r : List ℕ} (z : Sized n k i s f b r) where
  pub size : length (parts_of n k i s f b r) ≡ 2308
  unfolding parts_of
  size = simp (length-append, z.numbers, z.keys, z.index, z.symbols, z.fronts, z.backs, z.rows)

  pub at_numbers : Cut (λ l. parts_of l k i s f b r) 0
  unfolding parts_of
  at_numbers = record { front = []; rest = k ++ (i ++ (s ++ (f ++ (b ++ r)))); long = refl; is = λ part. refl }

  pub at_keys : Cut (λ l. parts_of n l i s f b r) 10
  unfolding parts_of
  at_keys = record { front = n; rest = i ++ (s ++ (f ++ (b ++ r))); long = z.numbers; is = λ part. refl }

  pub at_index : Cut (λ l. parts_of n k l s f b r) 266
  unfolding parts_of
  at_index =
      record { front = n ++ k; rest = s ++ (f ++ (b ++ r)); long = simp (length-append, z.numbers, z.keys); is = λ part. simp append_assoc }

  pub at_symbols : Cut (λ l. parts_of n k i l f b r) 1031
  unfolding parts_of
  at_symbols =
      record { front = n ++ (k ++ i); rest = f ++ (b ++ r); long = simp (length-append, z.numbers, z.keys, z.index); is = λ part. simp append_assoc }

  pub at_fronts : Cut (λ l. parts_of n k i s l b r) 1796
  unfolding parts_of
  at_fronts =
      record {
        front = n ++ (k ++ (i ++ s));
        rest = b ++ r;
        long = simp (length-append, z.numbers, z.keys, z.index, z.symbols);
        is = λ part. simp append_assoc;
      }

  pub at_backs : Cut (λ l. parts_of n k i s f l r) 1860
  unfolding parts_of
  at_backs =
      record {
        front = n ++ (k ++ (i ++ (s ++ f)));
        rest = r;
        long = simp (length-append, z.numbers, z.keys, z.index, z.symbols, z.fronts);
        is = λ part. simp append_assoc;
      }

-- the rows stand last
module _ {n k i s f b r : List ℕ} (z : Sized n k i s f b r) where
  abbrev pub before_rows : List ℕ
  before_rows = n ++ (k ++ (i ++ (s ++ (f ++ b))))

  pub before_long : length before_rows ≡ 1924
  before_long = simp (length-append, z.numbers, z.keys, z.index, z.symbols, z.fronts, z.backs)

  pub rows_last : (rows : List ℕ) → parts_of n k i s f b rows ≡ before_rows ++ rows
  unfolding parts_of
  rows_last rows = simp append_assoc
