-- The effect by the type: each arm has room for what it reads, and any other type is not in the table.
-- Assumes nothing.
use mathlib.Core.Path.{refl, ap, ◌∙◌, sym}
use mathlib.Core.Bool.{◌&&◌}
use Prim.Native.Nat.{ℕ}
use lib.Dec.{leb}
use Rattle.message.specs.Table.{payload_of}
use Rattle.message.specs.declared.types.Kind.TheVariants.{TradingSession, Top, Trade}
use Rattle.message.proofs.Listed.{number_is}
use Rattle.book.specs.Applying.{unlisted_under}
use Rattle.book.proofs.Arms.{typed, unlisted_by}
use Rattle.book.proofs.Types.{opened}
use Rattle.book_deciding.proofs.Listing.{of_none, quiet_kind}
use Rattle.book_deciding.proofs.tell.Goals as goal

pub session-requires : goal.session-requires
unfolding payload_of
session-requires c = opened c.args.bytes.now c.number_at.ensures 20 (number_is TradingSession c.in-Ok.ensures c.in-TradingSession.is) refl c.requires.0.enough

pub top-requires : goal.top-requires
unfolding payload_of
top-requires c = opened c.args.bytes.now c.number_at.ensures 26 (number_is Top c.in-Ok.ensures c.in-Top.is) refl c.requires.0.enough

pub trade-requires : goal.trade-requires
unfolding payload_of
trade-requires c = opened c.args.bytes.now c.number_at.ensures 27 (number_is Trade c.in-Ok.ensures c.in-Trade.is) refl c.requires.0.enough

pub returns-in_default-kind : goal.returns-in_default-kind
returns-in_default-kind c seen i h u =
    typed c.args.bytes.now seen _ c.number_at.ensures (sym c.in-Ok.ensures)
    (quiet_kind c.args.bytes.now seen c.in-Ok.kind
    (ap (λ (k : ℕ). leb 21 k && leb k 25) (c.in-Ok.ensures ∙ c.number_at.ensures) ∙ c.requires.1)
    c.in_default-kind.not-TradingSession c.in_default-kind.not-Top c.in_default-kind.not-Trade)

pub returns-in_default : goal.returns-in_default
returns-in_default c seen i h u =
    c.unlisted.ensures
    ∙ ap unlisted_under (sym u)
    ∙ unlisted_by c.args.bytes.now seen _ c.number_at.ensures (of_none _ _ c.try_from.ensures c.in_default.is)
