-- Where an order is live, and where a symbol's inside is held.
-- Assumes nothing.
use Rattle.std.specs.Prelude.{Bool, cond, ◌&&◌, List, [], ◌∷◌, ◌≡◌, ℕ, suc, ◌≤◌, eqb, Option, Some, None, is_some, unwrap_or}
use Rattle.wire.specs.Number.{num, part}
use Rattle.fields.specs.Id.{no_value}
use Rattle.book.specs.declared.lookup.Parts.{Parts}

-- whether it is there, and its place
abbrev pub is_at : Option ℕ → Bool
is_at found = is_some found

abbrev pub place_found : Option ℕ → ℕ
place_found found = unwrap_or found 0

-- the first place from k on that has the key
unfoldable pub key_from : ℕ → ℕ → List ℕ → Option ℕ
key_from k key [] = None
key_from k key (x ∷ xs) = cond (eqb x key) (Some k) (key_from (suc k) key xs)

-- the place of an id's value; an id that breaks its rule has no_value, and names no order
unfoldable pub key_at : ℕ → List ℕ → Option ℕ
key_at key keys = cond (eqb key no_value) None (key_from 0 key keys)

-- a symbol as two numbers: its first eight bytes and its last eight. Of 14 bytes they leave none out,
-- so symbols with the same two are the same (the law `same_bytes`)
abbrev pub front_of : List ℕ → ℕ
front_of symbol = num (part symbol 0 8)

abbrev pub back_of : List ℕ → ℕ
back_of symbol = num (part symbol 6 8)

unfoldable pub same_symbol : List ℕ → List ℕ → Bool
same_symbol one other = eqb (front_of one) (front_of other) && eqb (back_of one) (back_of other)

-- the same by three numbers that share no byte: the first eight bytes, the next four and the last two (the law `same_apart`)
unfoldable pub same_parts : Parts → Parts → Bool
same_parts one other = eqb one.first other.first && (eqb one.middle other.middle && eqb one.last other.last)

-- they are a symbol's; and two of its bytes make a number of 16 bits
pub record Apart (symbol : List ℕ) (p : Parts) : Type 0 where
  pub first : p.first ≡ num (part symbol 0 8)
  pub middle : p.middle ≡ num (part symbol 8 4)
  pub last : p.last ≡ num (part symbol 12 2)
  pub low : num (part symbol 6 2) ≤ 65535
  pub short : num (part symbol 12 2) ≤ 65535

unfoldable pub pair_from : ℕ → ℕ → ℕ → List ℕ → List ℕ → Option ℕ
pair_from k first last [] [] = None
pair_from k first last [] (y ∷ ys) = None
pair_from k first last (x ∷ xs) [] = None
pair_from k first last (x ∷ xs) (y ∷ ys) = cond (eqb x first && eqb y last) (Some k) (pair_from (suc k) first last xs ys)

-- the place of a symbol; no symbol begins with eight zero bytes
unfoldable pub symbol_at : List ℕ → List ℕ → List ℕ → Option ℕ
symbol_at symbol fronts backs = cond (eqb (front_of symbol) 0) None (pair_from 0 (front_of symbol) (back_of symbol) fronts backs)
