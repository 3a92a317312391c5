-- `text::output::put` meets its contract.
-- Assumes nothing.
use mathlib.Core.Path.{refl}
use native.Mathlib.Omega.{arith}
use borrow.Author.Rules.{rules}
use Rattle.text.proofs.output.put.Goals as goal

pub returns-then-room-at : goal.returns-then-room-at
returns-then-room-at c = record { within = search rules; fits = λ h. absurd (omega arith); full = λ h. (refl, refl) }

pub returns-then-room-at-2 : goal.returns-then-room-at-2
returns-then-room-at-2 c = record { within = search rules; fits = λ h. absurd (omega arith); full = λ h. (refl, refl) }

pub returns : goal.returns
returns c = record { within = search rules; fits = λ h. (refl, c.put_text.ensures); full = λ h. absurd (omega arith) }
