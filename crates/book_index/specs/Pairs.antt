-- The index of the insides held. A symbol is two numbers, its first eight bytes and its last eight, which stand in two arrays of 64
-- places. The index is of the first numbers alone: symbols that begin alike are on one chain, and their last numbers tell them apart.
-- Assumes nothing.
use Rattle.std.specs.Prelude.{◌≡◌, cond, ◌&&◌, List, [], ◌∷◌, ℕ, suc, ◌≤◌, ◌<◌, eqb, length, get_or, take, Option, IfSome}
use Rattle.book_index.specs.Chains.{below, index_of, place_of}

-- 1 where both numbers stand at a place, 0 where they do not
unfoldable pub both_at : ℕ → ℕ → List ℕ → List ℕ → ℕ → ℕ
both_at first last fronts backs place = cond (eqb (get_or fronts place 0) first && eqb (get_or backs place 0) last) 1 0

-- the last place at which both numbers stand
unfoldable pub last_pair : ℕ → ℕ → List ℕ → List ℕ → Option ℕ
last_pair first last fronts backs = place_of (below (both_at first last fronts backs) 1 (length fronts))

-- the first place from k on at which both numbers stand, plus 1; 0 where there is none
unfoldable pub first_pair : ℕ → ℕ → ℕ → List ℕ → List ℕ → ℕ
first_pair k first last [] [] = 0
first_pair k first last [] (y ∷ ys) = 0
first_pair k first last (x ∷ xs) [] = 0
first_pair k first last (x ∷ xs) (y ∷ ys) = cond (eqb x first && eqb y last) (suc k) (first_pair (suc k) first last xs ys)

-- the index is that of the first `held` of 64 first numbers, beside which 64 last numbers stand
pub record Paired (index firsts lasts : List ℕ) (held : ℕ) : Type 0 where
  pub few : held ≤ 64
  pub fronts : length firsts ≡ 64
  pub backs : length lasts ≡ 64
  pub is : index ≡ index_of (take held firsts)

-- the last place at which both numbers stand among the first `held`, as an answer
pub record IsPair (first last : ℕ) (fronts backs : List ℕ) (held : ℕ) (r : Option ℕ) : Type 0 where
  pub is : r ≡ last_pair first last (take held fronts) (take held backs)
  pub within : IfSome r (λ place. place < held)
