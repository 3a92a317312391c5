-- A number that is none of the twelve is not listed.
-- Assumes nothing.
use mathlib.Core.Path.{refl}
use borrow.Author.Rules.{rules}
use Rattle.message.proofs.Listed.{not_listed}
use Rattle.message.proofs.types.KindTryFromU8.try_from.Goals as goal

pub returns-in_default : goal.returns-in_default
returns-in_default c = (refl, not_listed _ (search rules) (search rules))
