-- Numbers over a list that was lent for them.
-- Assumes nothing.
use Rattle.std.specs.Prelude.{List, [], ◌∷◌, ℕ, suc, set}

-- numbers, one after the other, over what was lent for them; the rest of it stays
abbrev pub over_from : ℕ → List ℕ → List ℕ → List ℕ
over_from k [] old = old
over_from k (n ∷ ns) old = over_from (suc k) ns (set old k n)

abbrev pub over : List ℕ → List ℕ → List ℕ
over ns old = over_from 0 ns old
