-- The index of the live orders, by which one is found with no scan. It is one array of 765 cells: cells 0 to 255 are the places
-- of the orders, and cell 256 + b is the head of chain b. A place is on the chain of its order's key; one with no live order is
-- on none, and holds 0. Any other cell holds the last cell before it on the same chain, plus 1, or 0 where there is none: from
-- the head on, the places fall.
-- Assumes nothing.
use Rattle.std.specs.Prelude.{◌≡◌, ◌≢◌, cond, List, [], ◌∷◌, map, ℕ, zero, suc, ◌-◌, ◌%◌, ◌≤◌, ◌<◌, eqb, ltb, length, get_or, take, Option, Some, None, IfSome}

-- the last number below n at which f is v, plus 1; 0 where there is none
unfoldable pub below : (ℕ → ℕ) → ℕ → ℕ → ℕ
below f v zero = 0
below f v (suc n) = cond (eqb (f n) v) (suc n) (below f v n)

-- f at so many numbers from k on
unfoldable pub table_from : (ℕ → ℕ) → ℕ → ℕ → List ℕ
table_from f k zero = []
table_from f k (suc n) = f k ∷ table_from f (suc k) n

-- a key's chain, one of 509
unfoldable pub chain_of : ℕ → ℕ
chain_of key = key % 509

-- the chain that a cell is on, by the list of the places' chains; 509 is none
unfoldable pub chain_at : List ℕ → ℕ → ℕ
chain_at chains cell = cond (ltb cell 256) (get_or chains cell 509) (cell - 256)

-- what a cell holds, by the chain of every cell
unfoldable pub cell_of : (ℕ → ℕ) → ℕ → ℕ
cell_of chain cell = cond (ltb (chain cell) 509) (below chain (chain cell) cell) 0

-- the index by the list of the places' chains, and that of the live keys, in the order of their places
unfoldable pub index_by : List ℕ → List ℕ
index_by chains = table_from (cell_of (chain_at chains)) 0 765

unfoldable pub index_of : List ℕ → List ℕ
index_of ids = index_by (map chain_of ids)

-- the place that a cell's number tells: 1 less than it, and none at 0
abbrev pub place_of : ℕ → Option ℕ
place_of zero = None
place_of (suc place) = Some place

-- the last place that has a key
unfoldable pub last_at : ℕ → List ℕ → Option ℕ
last_at key ids = place_of (below (λ place. get_or ids place 0) key (length ids))

-- the first place from k on that has a key, plus 1; 0 where none has it
unfoldable pub first_from : ℕ → ℕ → List ℕ → ℕ
first_from k key [] = 0
first_from k key (x ∷ xs) = cond (eqb x key) (suc k) (first_from (suc k) key xs)

-- no two keys are the same
abbrev pub Distinct : List ℕ → Type 0
Distinct xs = (i j : ℕ) → i < j → j < length xs → get_or xs i 0 ≢ get_or xs j 0

-- the index is that of the first `live` of 256 keys
pub record Indexed (index keys : List ℕ) (live : ℕ) : Type 0 where
  pub few : live ≤ 256
  pub size : length keys ≡ 256
  pub is : index ≡ index_of (take live keys)

-- the last place that has a key among the first `live`, as an answer
pub record IsLast (key : ℕ) (keys : List ℕ) (live : ℕ) (r : Option ℕ) : Type 0 where
  pub is : r ≡ last_at key (take live keys)
  pub within : IfSome r (λ place. place < live)
