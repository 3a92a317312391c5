-- What is missing by the window is what is missing by the meaning.
-- Assumes nothing.
use mathlib.Core.Path.{ap, ◌∙◌}
use mathlib.Core.List.{List}
use Prim.Native.Nat.{ℕ}
use lib.ListN.{length}
use Rattle.window.specs.Runs.{asked_of, buffer_after}
use Rattle.session.proofs.Calls.{gaps_same, numbered}
use Rattle.session.proofs.asking.requests.Goals as goal

pub returns : goal.returns
returns c =
    let same = gaps_same c.args.room.now c.args.window.now in
    record {
      answer = c.requests.ensures.answer ∙ ap (λ (l : List (ℕ × ℕ)). asked_of l (length c.args.buf.now)) same;
      buffer = c.requests.ensures.buffer ∙ ap (λ (l : List (ℕ × ℕ)). buffer_after l c.args.buf.now) same;
    }

pub requests-requires : goal.requests-requires
requests-requires c = ((numbered c.requires.1).order, (numbered c.requires.1).top)
