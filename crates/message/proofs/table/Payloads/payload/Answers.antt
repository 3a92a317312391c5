-- `message::table::Payloads::payload` answers by what the table has, and behind it by what no type there is.
-- Assumes nothing.
use mathlib.Core.Path.{◌∙◌, sym}
use Rattle.message.proofs.Cases.{listed-none, listed-some, needed, unlisted-behind}
use Rattle.message.proofs.table.Payloads.payload.Goals as goal

pub returns-then-at-ge-TYPES : goal.returns-then-at-ge-TYPES
returns-then-at-ge-TYPES c = listed-none _ (unlisted-behind _ c.if-at-ge-TYPES.true)

pub returns-then-needed : goal.returns-then-needed
returns-then-needed c = listed-none _ (sym c.if-needed.true ∙ needed _ _ c.args.self.now.listed c.if-at-ge-TYPES.false)

pub returns : goal.returns
returns c = listed-some _ _ (needed _ _ c.args.self.now.listed c.if-at-ge-TYPES.false) c.if-needed.false
