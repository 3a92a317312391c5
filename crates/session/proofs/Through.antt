-- What each message leaves of the tables, every call leaves: a relation that is kept from message to message holds through a packet that
-- is taken, and through all calls.
-- Assumes nothing.
use mathlib.Core.List.{List, [], ◌∷◌}
use mathlib.Core.Option.{Option, none, some}
use Prim.Native.Nat.{ℕ, zero, suc, min}
use Rattle.merge.specs.State.{Call, Packet, apply_some, apply_up_to, applying, call_all, call_one, keep, keep_one, keeping, kept_if, step, take_if, take_one}
use Rattle.window_taking.specs.Taking.{judge}
use Rattle.book.specs.Applying.{apply_of}
use Rattle.book.specs.Tables.{Tables}
use Rattle.session.specs.Meaning.{Meaning, feed, overnight}

module _ (P : Tables → Tables → Type 0) (same : (t : Tables) → P t t) (more : (t u v : Tables) → P t u → P u v → P t v)
    (message : (t : Tables) (number : ℕ) (s : List ℕ) → P t (apply_of t number s)) where
  by_step : (x : Meaning) (o : Option (List ℕ)) → P x.tables (step feed x o).tables
  unfolding step
  by_step x none = same x.tables
  by_step x (some m) = message x.tables x.next m

  by_steps : (c : ℕ) (x : Meaning) → P x.tables (apply_up_to feed c x).tables
  unfolding apply_up_to
  by_steps zero x = same x.tables
  by_steps (suc c) x =
      let y = step feed x (x.waiting x.next) in
      more x.tables y.tables (apply_up_to feed c y).tables (by_step x (x.waiting x.next)) (by_steps c y)

  pub by_take : (x : Meaning) (p : List ℕ) → P x.tables (take_one overnight x p).tables
  unfolding take_one take_if keep
  by_take x p = go (judge x p)
    where
      go : (o : Option (Packet (List ℕ))) → P x.tables (take_if overnight x o).tables
      go none = same x.tables
      go (some q) = by_steps 256 (keep x q)

  by_call : (x : Meaning) (c : Call (List ℕ)) → P x.tables (call_one overnight x c).tables
  unfolding call_one keep_one kept_if keep apply_some
  by_call x (applying count) = by_steps (min count 256) x
  by_call x (keeping p) = go (judge x p)
    where
      go : (o : Option (Packet (List ℕ))) → P x.tables (kept_if x o).tables
      go none = same x.tables
      go (some q) = same x.tables

  pub by_calls : (cs : List (Call (List ℕ))) (x : Meaning) → P x.tables (call_all overnight x cs).tables
  unfolding call_all
  by_calls [] x = same x.tables
  by_calls (c ∷ cs) x =
      let y = call_one overnight x c in
      more x.tables y.tables (call_all overnight y cs).tables (by_call x c) (by_calls cs y)
