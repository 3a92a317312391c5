-- How the index changes: an order comes at the place behind the live ones; one leaves, and the last takes its place.
-- Assumes nothing.
use Rattle.std.specs.Prelude.{◌≡◌, ◌≢◌, List, ℕ, ◌+◌, ◌-◌, ◌≤◌, ◌<◌, length, get_or, take, set}
use Rattle.book_index.specs.Chains.{chain_at, index_by, index_of}

-- the one at a place leaves: the last takes its place
unfoldable pub without : {A : Type 0} → A → ℕ → List A → List A
without blank place xs = take (length xs - 1) (set xs place (get_or xs (length xs - 1) blank))

-- an index of so many keys, with room for one more
pub record Open (index ids : List ℕ) (live : ℕ) : Type 0 where
  pub is : index ≡ index_of ids
  pub count : length ids ≡ live
  pub room : live < 256

-- an index of keys up to the last place, with the key that leaves its place and the key at the last
pub record Leaving (index ids : List ℕ) (last place gone moved : ℕ) : Type 0 where
  pub is : index ≡ index_of ids
  pub count : length ids ≡ last + 1
  pub few : last < 256
  pub within : place ≤ last
  pub here : get_or ids place 0 ≡ gone
  pub end : get_or ids last 0 ≡ moved

-- an index by the chains of the places, with a place that is on a chain
pub record On (index chains : List ℕ) (chain place : ℕ) : Type 0 where
  pub is : index ≡ index_by chains
  pub few : place < 256
  pub on : get_or chains place 509 ≡ chain

-- the same, where it is the last place
pub record Last (index chains : List ℕ) (chain place : ℕ) : Type 0 where
  pub on : On index chains chain place
  pub end : length chains ≡ place + 1

-- with a place within the list that is on no chain
pub record Off (index chains : List ℕ) (place : ℕ) : Type 0 where
  pub is : index ≡ index_by chains
  pub few : place < 256
  pub within : place < length chains
  pub off : get_or chains place 509 ≡ 509

-- of the cells behind a place, the first that is on the chain
pub record Behind (chains : List ℕ) (chain place cell : ℕ) : Type 0 where
  pub past : place < cell
  pub on : chain_at chains cell ≡ chain
  pub free : (c : ℕ) → place < c → c < cell → chain_at chains c ≢ chain
