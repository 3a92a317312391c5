-- The waiting window in memory: W places, where number k has the place k % W.
-- Assumes nothing.
use Rattle.std.specs.Prelude.{ℕ, ◌+◌, ◌-◌, ◌%◌, ◌<◌, ◌≡◌, cond, ◌&&◌, leb, ltb}
use Rattle.std.proofs.Math.Option.{Option, none}
use Rattle.merge.specs.State.{State}

-- The other way round: the number of the window from next on that has the place i.
unfoldable pub number_at : ℕ → ℕ → ℕ → ℕ
number_at W next i = next + (i + (W - next % W)) % W

module _ {Msg : Type 0} where
  -- What waits under k by the places: outside the window nothing, so that a place speaks of one number only.
  unfoldable pub waiting_in : ℕ → (ℕ → Option Msg) → ℕ → ℕ → Option Msg
  waiting_in W place next k = cond (leb next k && ltb k (next + W)) (place (k % W)) none

  -- One place i rewritten, the others of the W untouched.
  pub record Put (W : ℕ) (before after : ℕ → Option Msg) (i : ℕ) (content : Option Msg) : Type 0 where
    pub there : after i ≡ content
    pub others : (j : ℕ) → j < W → ¬ (j ≡ i) → after j ≡ before j

-- The places hold what waits in session x, and nothing else.
pub record InPlaces {Msg Table : Type 0} (W : ℕ) (place : ℕ → Option Msg) (x : State Msg Table) : Type 0 where
  pub holds : (k : ℕ) → x.waiting k ≡ waiting_in W place x.next k
