-- A list in n places: one more behind the last, another in a place, one gone with the last in its place. Each store of the
-- code is one of these, whatever the elements are.
-- Assumes nothing.
use mathlib.Core.Path.{◌≡◌, refl, ap, ◌∙◌, sym}
use mathlib.Core.List.{List, [], ◌∷◌, ◌++◌, map}
use Prim.Native.Nat.{ℕ, suc, ◌+◌, ◌-◌, ◌≤◌, ◌<◌}
use native.Mathlib.Omega.{arith}
use lib.ListN.{length, get_or, take, set, length-append, length-set, length-replicate, get_or-append, drop_of_length-le}
use lib.Seq.{take-append_seam, set-append_seam, set-append_left, set_split, append_snoc, length-take-le}
use Rattle.book_index.specs.Changes.{without}
use Rattle.book.specs.Tables.{places}

module _ {A : Type 0} (n : ℕ) (dead : A) where
  pub length-places : (xs : List A) → length xs ≤ n → length (places n dead xs) ≡ n
  unfolding places
  length-places xs h = simp (length-append, length-replicate) (omega arith)

  pub take_places : (xs : List A) → take (length xs) (places n dead xs) ≡ xs
  unfolding places
  take_places xs = take-append_seam xs _

  pub get_places : (xs : List A) (i : ℕ) (d : A) → i < length xs → get_or (places n dead xs) i d ≡ get_or xs i d
  unfolding places
  get_places xs i d h = get_or-append xs _ d i h

  pub put_places : (xs : List A) (x : A) → length xs < n → set (places n dead xs) (length xs) x ≡ places n dead (xs ++ (x ∷ []))
  unfolding places
  put_places xs x h =
      let k : n - length xs ≡ suc (n - (length xs + 1)) = omega arith in
      let l : length (xs ++ (x ∷ [])) ≡ length xs + 1 = length-append xs (x ∷ []) in
      rw (k, l) (set-append_seam xs dead _ x ∙ sym (append_snoc xs x _))

  pub set-places : (xs : List A) (i : ℕ) (x : A) → i < length xs → set (places n dead xs) i x ≡ places n dead (set xs i x)
  unfolding places
  set-places xs i x h = rw (length-set xs i x) (set-append_left xs _ i x h)

  last_gone : (ys : List A) (m : ℕ) → length ys ≡ suc m → suc m ≤ n → set (places n dead ys) m dead ≡ places n dead (take m ys)
  unfolding places
  last_gone ys m l h =
      let small : m < length ys = omega arith in
      let short : length ys ≤ suc m = omega arith in
      let k : n - m ≡ suc (n - length ys) = omega arith in
      let e : length (take m ys) ≡ m = length-take-le m ys (omega arith) in
      set-append_left ys _ m dead small
      ∙ rw (set_split ys m dead small, drop_of_length-le ys short, e, k) (append_snoc (take m ys) dead _)

  pub leave_places : (xs : List A) (j : ℕ) (d : A) → j < length xs → length xs ≤ n
      → set (set (places n dead xs) j (get_or (places n dead xs) (length xs - 1) d)) (length xs - 1) dead ≡ places n dead (without d j xs)
  unfolding without
  leave_places xs j d h fits =
      let small : length xs - 1 < length xs = omega arith in
      let one : length (set xs j (get_or xs (length xs - 1) d)) ≡ suc (length xs - 1) = length-set xs j _ ∙ (omega arith) in
      rw (get_places xs (length xs - 1) d small, set-places xs j (get_or xs (length xs - 1) d) h)
      (last_gone (set xs j (get_or xs (length xs - 1) d)) (length xs - 1) one (omega arith))

-- what stands beside a list goes with it
module _ {A B : Type 0} (f : A → B) where
  pub map_put : (xs : List A) (x : A) → map f (xs ++ (x ∷ [])) ≡ map f xs ++ (f x ∷ [])
  map_put [] x = refl
  map_put (y ∷ xs) x = ap (λ (l : List B). f y ∷ l) (map_put xs x)

pub length_put : {A : Type 0} (xs : List A) (x : A) → length (xs ++ (x ∷ [])) ≡ length xs + 1
length_put xs x = length-append xs (x ∷ [])
