-- The effect by the type: each arm has room for what it reads, and 25 is what is left of the types that name an order.
-- Assumes nothing.
use mathlib.Core.Path.{◌≡◌, refl, ap, ◌∙◌, sym}
use Rattle.message.specs.Table.{payload_of}
use Rattle.book.specs.Applying.{is_listed, names}
use Rattle.book.proofs.Arms.{typed}
use Rattle.book.proofs.Types.{naming}
use Rattle.book_deciding.proofs.Listing.{last_kind, named-listed, of_kind, some_kind}
use Rattle.book_deciding.proofs.change.Goals as goal
use Rattle.book_deciding.proofs.change.Goals.{In_default}

pub unwrap-kind-requires : goal.unwrap-kind-requires
unwrap-kind-requires c = some_kind _ _ c.try_from.ensures (ap is_listed c.number_at.ensures ∙ named-listed _ c.requires.1)

-- the type that no other arm has
left : (c : In_default) → c.number_at.result ≡ 25
left c =
    let is = of_kind _ _ c.try_from.ensures c.unwrap-kind.ensures in
    is ∙ last_kind _ (ap names (sym is ∙ c.number_at.ensures) ∙ c.requires.1) c.in_default.not-Update c.in_default.not-Delete c.in_default.not-Execution

pub update-requires : goal.update-requires
unfolding payload_of
update-requires c = naming c.args.bytes.now c.number_at.ensures 22 (of_kind _ _ c.try_from.ensures c.in-Update.ensures) refl refl c.requires.0

pub delete-requires : goal.delete-requires
unfolding payload_of
delete-requires c = naming c.args.bytes.now c.number_at.ensures 23 (of_kind _ _ c.try_from.ensures c.in-Delete.ensures) refl refl c.requires.0

pub execution-requires : goal.execution-requires
unfolding payload_of
execution-requires c = naming c.args.bytes.now c.number_at.ensures 24 (of_kind _ _ c.try_from.ensures c.in-Execution.ensures) refl refl c.requires.0

pub priced-requires : goal.priced-requires
unfolding payload_of
priced-requires c = naming c.args.bytes.now c.number_at.ensures 25 (left c) refl refl c.requires.0

pub returns-in_default : goal.returns-in_default
returns-in_default c seen o q p = typed c.args.bytes.now seen 25 c.number_at.ensures (left (goal.at.returns-in_default c).In_default) (c.priced.ensures seen o q p)
