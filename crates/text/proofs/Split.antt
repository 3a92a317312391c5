-- The words of a line are the parts between its spaces.
-- Assumes nothing.
use Rattle.std.proofs.Common.{◌≡◌, refl, ap, ◌∙◌, sym, ℕ, suc, ◌+◌, ◌≤◌, ◌<◌, List, [], ◌∷◌, eqb, length, get_or, drop, cond, Bool, true, false, Option, None, Some, Bor, unwrap_or, arith}
use native.Mathlib.Numerals.{add-one}
use lib.ListN.{drop_of_length-le}
use lib.Seq.{drop-cons}
use Rattle.std.specs.List.{slice_split, onto_first, slice_get}
use Rattle.std.specs.Option.{option_map}
use Rattle.std.proofs.lemmas.Option.{unwrap_or-slice_get}
use Rattle.std.specs.Iterator.{Yields}
use Rattle.std.proofs.lemmas.Iterator.{YieldsList}
use Rattle.std.proofs.lemmas.Iterator.Consumers.{YieldsList-turn, YieldsList-end}
use Rattle.text.specs.Words.{before, words_of, count_from, count_of, word_of, Counts}

abbrev pub parts : List ℕ → List (List ℕ)
parts line = slice_split (λ b. eqb b 32) line

one_of : (P : List (List ℕ) → Type 0) (t : Bool) (a b : List (List ℕ)) → P a → P b → P (cond t a b)
one_of P true a b x y = x
one_of P false a b x y = y

some_first : (b : ℕ) (words : List (List ℕ)) → 0 < length (onto_first b words)
some_first b [] = omega arith
some_first b (word ∷ words) = omega arith

some_parts : (line : List ℕ) → 0 < length (parts line)
some_parts [] = omega arith
some_parts (b ∷ bs) =
    one_of (λ (l : List (List ℕ)). 0 < length l) (eqb b 32) ([] ∷ parts bs) (onto_first b (parts bs)) (omega arith) (some_first b (parts bs))

before_one : (b : ℕ) (words : List (List ℕ)) → 0 < length words → before (b ∷ []) words ≡ onto_first b words
before_one b [] h = absurd (omega arith)
before_one b (word ∷ words) h = refl

pub words_parts : (line : List ℕ) → words_of line ≡ parts line
unfolding words_of
words_parts [] = refl
words_parts (b ∷ bs) = rw (words_parts bs, before_one b (parts bs) (some_parts bs)) refl

-- a word by its number
pub nth_word : (line : List ℕ) (k : ℕ) (r : Option (Bor (List ℕ))) (d : Bor (List ℕ)) → option_map (λ (x : Bor (List ℕ)). x.now) r ≡ slice_get (parts line) k → d.now ≡ [] → (unwrap_or r d).now ≡ word_of line k
unfolding word_of
nth_word line k None d e none =
    none
    ∙ ap (λ (o : Option (List ℕ)). unwrap_or o []) e
    ∙ unwrap_or-slice_get (parts line) k []
    ∙ ap (λ (words : List (List ℕ)). get_or words k []) (sym (words_parts line))
nth_word line k (Some x) d e none =
    ap (λ (o : Option (List ℕ)). unwrap_or o []) e
    ∙ unwrap_or-slice_get (parts line) k []
    ∙ ap (λ (words : List (List ℕ)). get_or words k []) (sym (words_parts line))

-- what is counted of the words behind n others
counted_step : (n m : ℕ) (words : List (List ℕ)) → count_from (n + 1) (drop 1 words) ≤ m → count_from n words ≤ m
unfolding count_from
counted_step n m [] h = omega arith
counted_step n m ([] ∷ words) h = omega arith
counted_step n m ((b ∷ bs) ∷ words) h = h

behind_first : (b : ℕ) (words : List (List ℕ)) → drop 1 (onto_first b words) ≡ drop 1 words
behind_first b [] = refl
behind_first b (word ∷ words) = refl

behind_end : (n : ℕ) → count_from n [] ≤ n + 0
unfolding count_from
behind_end n = omega arith

behind_most : (n : ℕ) (line : List ℕ) → count_from n (drop 1 (parts line)) ≤ n + length line
behind_most n [] = behind_end n
behind_most n (b ∷ bs) =
    let here : count_from n (drop 1 (parts bs)) ≤ n + length bs = behind_most n bs in
    let next : count_from (n + 1) (drop 1 (parts bs)) ≤ n + 1 + length bs = behind_most (n + 1) bs in
    let space : count_from n (parts bs) ≤ n + suc (length bs) = counted_step n (n + suc (length bs)) (parts bs) (omega arith) in
    let other : count_from n (drop 1 (onto_first b (parts bs))) ≤ n + suc (length bs) = rw (behind_first b (parts bs)) (omega arith) in
    one_of (λ (l : List (List ℕ)). count_from n (drop 1 l) ≤ n + suc (length bs)) (eqb b 32) ([] ∷ parts bs) (onto_first b (parts bs)) space other

counted_first : (b n : ℕ) (words : List (List ℕ)) → count_from 1 (drop 1 words) ≤ n → count_from 0 (onto_first b words) ≤ n
unfolding count_from
counted_first b n [] h = h
counted_first b n (word ∷ words) h = h

empty_first : (n m : ℕ) (words : List (List ℕ)) → count_from n ([] ∷ words) ≤ m
unfolding count_from
empty_first n m words = omega arith

counted_parts : (line : List ℕ) → count_from 0 (parts line) ≤ length line
counted_parts [] = empty_first 0 0 []
counted_parts (b ∷ bs) =
    let next : count_from 1 (drop 1 (parts bs)) ≤ 1 + length bs = behind_most 1 bs in
    one_of (λ (l : List (List ℕ)). count_from 0 l ≤ suc (length bs)) (eqb b 32) ([] ∷ parts bs) (onto_first b (parts bs)) (empty_first 0 (suc (length bs)) (parts bs)) (counted_first b (suc (length bs)) (parts bs) (omega arith))

counted_word : (n : ℕ) (word : List ℕ) (words : List (List ℕ)) → (length word ≡ 0 → count_from n (word ∷ words) ≡ 0) × ((length word ≡ 0 → ⊥) → count_from n (word ∷ words) ≡ count_from (n + 1) words)
unfolding count_from
counted_word n [] words = ((λ none. refl), λ some. absurd (some refl))
counted_word n (b ∷ bs) words = ((λ none. absurd (omega arith)), λ some. refl)

pub counted_start : (line : List ℕ) → count_from 0 (parts line) ≡ count_of line
unfolding count_of
counted_start line = ap (count_from 0) (sym (words_parts line))

module _ (line : List ℕ) (n : ℕ) (was : count_from n (drop n (parts line)) ≡ count_of line) where
  counted : (r : ℕ) → r ≡ count_of line → Counts line r
  unfolding count_of
  counted r e = record { is = e; most = rw (e, words_parts line) (counted_parts line) }

  pub counted_end : length (parts line) ≤ n → Counts line n
  unfolding count_from
  counted_end all = counted n (sym (ap (count_from n) (drop_of_length-le (parts line) all)) ∙ was)

  module _ (word : List ℕ) (there : n < length (parts line)) (is : word ≡ get_or (parts line) n word) where
    rest : drop n (parts line) ≡ word ∷ drop (n + 1) (parts line)
    rest = rw (drop-cons (parts line) n word there, add-one, ← is) refl

    pub counted_empty : length word ≡ 0 → Counts line 0
    counted_empty none = counted 0 (sym ((counted_word n word (drop (n + 1) (parts line))).0 none) ∙ ap (count_from n) (sym rest) ∙ was)

    pub counted_more : (length word ≡ 0 → ⊥) → count_from (n + 1) (drop (n + 1) (parts line)) ≡ count_of line
    counted_more some = sym ((counted_word n word (drop (n + 1) (parts line))).1 some) ∙ ap (count_from n) (sym rest) ∙ was

-- a turn of a `for`, and its end, where the steps show what is gone over
pub turn : {S A B : Type 0} {steps : S → Option A → S → Type 0} {v : A → B} {s : S} {all : List B} (xs : List A) (t u : S) (r : Option A) (x : A) → Yields steps s xs t → steps t r u → r ≡ Some x → YieldsList steps v s all → (length xs < length all) × (v x ≡ get_or all (length xs) (v x))
turn xs t u r x y step is e = YieldsList-turn e xs t y r u x is step

pub end : {S A B : Type 0} {steps : S → Option A → S → Type 0} {v : A → B} {s : S} {all : List B} (xs : List A) (t u : S) (r : Option A) → Yields steps s xs t → steps t r u → r ≡ None → YieldsList steps v s all → length xs ≡ length all
end xs t u r y step is e = (YieldsList-end e xs t y r u is step).1
