-- `text::hex::put` meets its contract.
-- Assumes nothing.
use native.Mathlib.Omega.{arith}
use Rattle.text.proofs.Spelling.{put_as, no_word, no_room, put_spelt}
use borrow.Author.Rules.{rules}
use Rattle.text.proofs.hex.put.Goals as goal

pub returns-then-is_empty : goal.returns-then-is_empty
returns-then-is_empty c = put_as _ _ _ _ _ _ (no_word _ (search rules)) c.put.ensures

pub returns-then-room-at : goal.returns-then-room-at
returns-then-room-at c = no_room _ _ _ (search rules) (omega arith)

pub returns-then-room-at-2 : goal.returns-then-room-at-2
returns-then-room-at-2 c = no_room _ _ _ (search rules) (omega arith)

pub returns : goal.returns
returns c = put_spelt _ _ _ (search rules) (omega arith) _ (search rules) c.spell.ensures
