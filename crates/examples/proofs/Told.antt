-- A message by the first letter of its kind, letter by letter, and by the words of a line.
-- Assumes nothing.
use mathlib.Core.Path.{◌≡◌}
use mathlib.Core.List.{List}
use Prim.Native.Nat.{ℕ, ◌+◌, ◌%◌}
use borrow.Author.Tests.{ne_eqb}
use Rattle.message.specs.declared.kinds.Message.{Message}
use Rattle.examples_cases.specs.Lines.{letter_of, value_of}
use Rattle.examples.specs.Made.{add_of, delete_of, execution_of, message_by, no_message, told_of, top_of, trading_of, update_of}

module _ (kind k side first second : ℕ) {r : Message} where
  pub by_add : kind ≡ 97 → r ≡ add_of k side (first % 4294967296) second → r ≡ message_by kind k side first second
  unfolding message_by
  by_add e h = rw e h

  pub by_update : kind ≡ 117 → r ≡ update_of k (first % 4294967296) second → r ≡ message_by kind k side first second
  unfolding message_by
  by_update e h = rw e h

  pub by_delete : kind ≡ 100 → r ≡ delete_of k → r ≡ message_by kind k side first second
  unfolding message_by
  by_delete e h = rw e h

  pub by_execution : kind ≡ 101 → r ≡ execution_of k (first % 4294967296) (second % 4294967296) → r ≡ message_by kind k side first second
  unfolding message_by
  by_execution e h = rw e h

  pub by_top : kind ≡ 116 → r ≡ top_of k first second → r ≡ message_by kind k side first second
  unfolding message_by
  by_top e h = rw e h

  pub by_trading : kind ≡ 115 → r ≡ trading_of (k % 256) → r ≡ message_by kind k side first second
  unfolding message_by
  by_trading e h = rw e h

  pub by_none : (kind ≡ 97 → ⊥) → (kind ≡ 117 → ⊥) → (kind ≡ 100 → ⊥) → (kind ≡ 101 → ⊥) → (kind ≡ 116 → ⊥) → (kind ≡ 115 → ⊥) → r ≡ no_message → r ≡ message_by kind k side first second
  unfolding message_by
  by_none a u d e t s h =
      simp (ne_eqb kind 97 a, ne_eqb kind 117 u, ne_eqb kind 100 d, ne_eqb kind 101 e, ne_eqb kind 116 t, ne_eqb kind 115 s) h

pub told_is : (line : List ℕ) (at : ℕ) {kind k side first second : ℕ} {r : Message} → kind ≡ letter_of line at → k ≡ value_of line (at + 1) → side ≡ letter_of line (at + 2) → first ≡ value_of line (at + 3) → second ≡ value_of line (at + 4) → r ≡ message_by kind (k % 1000) side first second → r ≡ told_of line at
unfolding told_of
told_is line at a b c d e h = cc
