-- The console's lines: which command one is, by its count of words and its first word, and a word that is an id
-- or a symbol.
-- Assumes nothing.
use Rattle.std.specs.Prelude.{Bool, true, false, cond, ◌≡◌, List, [], ◌∷◌, ℕ, eqb, Option, Some, None, unwrap_or}
use Rattle.desk.specs.declared.command.Command.{Command}
use Rattle.desk.specs.declared.command.Command.TheVariants.{Open, Strict, Take, Keep, Apply, State, Unlisted, Rule, Lowest, Order, Best, Inside, Value, Requests, Header, Message, Rewrite, Rehead, Walk}
use Rattle.text.specs.Hex.{Reads}

-- whether a word is a name, letter by letter
unfoldable pub is_name : List ℕ → List ℕ → Bool
is_name [] [] = true
is_name [] (b ∷ bs) = false
is_name (a ∷ more) [] = false
is_name (a ∷ more) (b ∷ bs) = cond (eqb a b) (is_name more bs) false

-- the command, where the word is its name
unfoldable pub named_of : List ℕ → List ℕ → Command → Option Command
named_of word name command = cond (is_name word name) (Some command) None

-- `value`, `header`, `message`, `walk`: those that need no session
unfoldable pub bytes_command : List ℕ → Option Command
bytes_command word =
    (cond (is_name word (118 ∷ 97 ∷ 108 ∷ 117 ∷ 101 ∷ [])) (Some Value)
    (cond (is_name word (104 ∷ 101 ∷ 97 ∷ 100 ∷ 101 ∷ 114 ∷ [])) (Some Header)
    (cond (is_name word (109 ∷ 101 ∷ 115 ∷ 115 ∷ 97 ∷ 103 ∷ 101 ∷ [])) (Some Message)
    (named_of word (119 ∷ 97 ∷ 108 ∷ 107 ∷ []) Walk))))

-- `open`, `take`, `order`, `inside`, `requests`, and those
unfoldable pub one_command : List ℕ → Option Command
one_command word =
    (cond (is_name word (111 ∷ 112 ∷ 101 ∷ 110 ∷ [])) (Some Open)
    (cond (is_name word (116 ∷ 97 ∷ 107 ∷ 101 ∷ [])) (Some Take)
    (cond (is_name word (111 ∷ 114 ∷ 100 ∷ 101 ∷ 114 ∷ [])) (Some Order)
    (cond (is_name word (105 ∷ 110 ∷ 115 ∷ 105 ∷ 100 ∷ 101 ∷ [])) (Some Inside)
    (cond (is_name word (114 ∷ 101 ∷ 113 ∷ 117 ∷ 101 ∷ 115 ∷ 116 ∷ 115 ∷ [])) (Some Requests)
    (bytes_command word))))))

-- `keep`, `apply`, and those
unfoldable pub two_command : List ℕ → Option Command
two_command word =
    (cond (is_name word (107 ∷ 101 ∷ 101 ∷ 112 ∷ [])) (Some Keep)
    (cond (is_name word (97 ∷ 112 ∷ 112 ∷ 108 ∷ 121 ∷ [])) (Some Apply)
    (one_command word)))

-- `open` by a rule, `best`
unfoldable pub three_command : List ℕ → Option Command
three_command word =
    (cond (is_name word (111 ∷ 112 ∷ 101 ∷ 110 ∷ [])) (Some Strict)
    (named_of word (98 ∷ 101 ∷ 115 ∷ 116 ∷ []) Best))

-- `state`, `unlisted`, `rule`, `lowest`
unfoldable pub bare_command : List ℕ → Option Command
bare_command word =
    (cond (is_name word (115 ∷ 116 ∷ 97 ∷ 116 ∷ 101 ∷ [])) (Some State)
    (cond (is_name word (117 ∷ 110 ∷ 108 ∷ 105 ∷ 115 ∷ 116 ∷ 101 ∷ 100 ∷ [])) (Some Unlisted)
    (cond (is_name word (114 ∷ 117 ∷ 108 ∷ 101 ∷ [])) (Some Rule)
    (named_of word (108 ∷ 111 ∷ 119 ∷ 101 ∷ 115 ∷ 116 ∷ []) Lowest))))

-- `state`, `unlisted`, `rule` and `lowest` have one word, `best` and `open` by a rule three, `rewrite` four, `rehead` seven, and every
-- other command two
unfoldable pub command_of : ℕ → List ℕ → Option Command
command_of count word =
    (cond (eqb count 1) (bare_command word)
    (cond (eqb count 2) (two_command word)
    (cond (eqb count 3) (three_command word)
    (cond (eqb count 4) (named_of word (114 ∷ 101 ∷ 119 ∷ 114 ∷ 105 ∷ 116 ∷ 101 ∷ []) Rewrite)
    (cond (eqb count 7) (named_of word (114 ∷ 101 ∷ 104 ∷ 101 ∷ 97 ∷ 100 ∷ []) Rehead)
    None)))))

-- a word read as an id or a symbol into 14 bytes, where it gave 14
pub record TextOf (word : List ℕ) (r : Option (List ℕ)) : Type 0 where
  pub got : Option ℕ
  pub text : List ℕ
  pub read : Reads word 14 got text
  pub is : r ≡ cond (eqb (unwrap_or got 0) 14) (Some text) None
