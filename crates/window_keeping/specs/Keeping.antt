-- The packets of a burst kept one after the other, nothing applied: the answer to each.
-- Assumes nothing.
use Rattle.std.specs.Prelude.{false, List, [], ◌∷◌, ◌++◌, ℕ, ◌+◌, ◌-◌, ◌≤◌, None}
use Rattle.merge.specs.State.{State}
use Rattle.packet.specs.Header.{decided}
use Rattle.window_taking.specs.Keeping.{fresh_by, kept_by}
use Rattle.window_taking.specs.Taking.{take_tests}
use Rattle.window_taking.specs.Turns.{Lies, behind, packet_at}
use Rattle.window_taking.specs.declared.burst.Turn.{Turn}

module _ {Table : Type 0} where
  -- four numbers: how many of its numbers now wait that did not before, the refusal, 0 where there is none, then next, which stands, and end
  abbrev pub kept_row : State (List ℕ) Table → List ℕ → List ℕ
  kept_row x s = fresh_by x s ∷ (decided (take_tests x s)).0 ∷ x.next ∷ (kept_by x s).end ∷ []

  unfoldable pub kept_rows : State (List ℕ) Table → List (List ℕ) → List ℕ
  kept_rows x [] = []
  kept_rows x (s ∷ ss) = kept_row x s ++ kept_rows (kept_by x s) ss

  -- the turn behind a packet: no packet is at hand
  abbrev pub turn_after : State (List ℕ) Table → List ℕ → Turn → Turn
  turn_after x s turn =
      record {
        begun = false;
        left = turn.left - 1;
        at = behind false s turn.at;
        place = turn.place + 4;
        before = x.next;
        refusal = None;
        end = (kept_by x (packet_at false s turn.at)).end;
        direct = 0;
        from = 0;
      }

-- there is a packet, and room for its answer
pub record Hands (s : List ℕ) (turn : Turn) (n : ℕ) : Type 0 where
  pub left : 1 ≤ turn.left
  pub lies : Lies false s turn.at
  pub room : turn.place + 4 ≤ n
