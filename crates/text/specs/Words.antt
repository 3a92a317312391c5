-- The words of a line: what stands between its spaces.
-- Assumes nothing.
use Rattle.std.specs.Prelude.{cond, ◌≡◌, List, [], ◌∷◌, ◌++◌, ℕ, ◌+◌, ◌≤◌, eqb, length, get_or}

-- bytes in front of the first word
abbrev pub before : List ℕ → List (List ℕ) → List (List ℕ)
before bs [] = []
before bs (word ∷ words) = (bs ++ word) ∷ words

unfoldable pub words_of : List ℕ → List (List ℕ)
words_of [] = [] ∷ []
words_of (b ∷ bs) = cond (eqb b 32) ([] ∷ words_of bs) (before (b ∷ []) (words_of bs))

-- how many words there are behind n others; 0 where one of them is empty
unfoldable pub count_from : ℕ → List (List ℕ) → ℕ
count_from n [] = n
count_from n ([] ∷ words) = 0
count_from n ((b ∷ bs) ∷ words) = count_from (n + 1) words

unfoldable pub count_of : List ℕ → ℕ
count_of line = count_from 0 (words_of line)

unfoldable pub word_of : List ℕ → ℕ → List ℕ
word_of line k = get_or (words_of line) k []

pub record Counts (line : List ℕ) (r : ℕ) : Type 0 where
  pub is : r ≡ count_of line
  pub most : r ≤ length line
