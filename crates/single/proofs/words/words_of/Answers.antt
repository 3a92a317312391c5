-- The widths by type, computed for each.
-- Assumes nothing.
use Rattle.std.proofs.Common.{ℕ, List, ap, sym, rules}
use Rattle.message.specs.Layouts.{layout_of}
use Rattle.message.specs.declared.types.Kind.TheVariants.{Security, SpinStart, SpinEnd, TradingSession, Add, Update, Delete, Execution, Priced, Top, Trade, Imbalance}
use Rattle.message.proofs.Listed.{number_is}
use Rattle.single.specs.Words.{widths_of}
use Rattle.single.proofs.Laying.{layout-unlisted}
use Rattle.wire.specs.Layout.{Field}
use Rattle.single.proofs.words.words_of.Goals as goal

pub returns-in-Security : goal.returns-in-Security
unfolding layout_of
returns-in-Security c = sym (ap (λ (t : ℕ). widths_of (layout_of t)) (number_is Security c.in-Ok.ensures c.in-Security.is))

pub returns-in-SpinStart : goal.returns-in-SpinStart
unfolding layout_of
returns-in-SpinStart c = sym (ap (λ (t : ℕ). widths_of (layout_of t)) (number_is SpinStart c.in-Ok.ensures c.in-SpinStart.is))

pub returns-in-SpinEnd : goal.returns-in-SpinEnd
unfolding layout_of
returns-in-SpinEnd c = sym (ap (λ (t : ℕ). widths_of (layout_of t)) (number_is SpinEnd c.in-Ok.ensures c.in-SpinEnd.is))

pub returns-in-TradingSession : goal.returns-in-TradingSession
unfolding layout_of
returns-in-TradingSession c = sym (ap (λ (t : ℕ). widths_of (layout_of t)) (number_is TradingSession c.in-Ok.ensures c.in-TradingSession.is))

pub returns-in-Add : goal.returns-in-Add
unfolding layout_of
returns-in-Add c = sym (ap (λ (t : ℕ). widths_of (layout_of t)) (number_is Add c.in-Ok.ensures c.in-Add.is))

pub returns-in-Update : goal.returns-in-Update
unfolding layout_of
returns-in-Update c = sym (ap (λ (t : ℕ). widths_of (layout_of t)) (number_is Update c.in-Ok.ensures c.in-Update.is))

pub returns-in-Delete : goal.returns-in-Delete
unfolding layout_of
returns-in-Delete c = sym (ap (λ (t : ℕ). widths_of (layout_of t)) (number_is Delete c.in-Ok.ensures c.in-Delete.is))

pub returns-in-Execution : goal.returns-in-Execution
unfolding layout_of
returns-in-Execution c = sym (ap (λ (t : ℕ). widths_of (layout_of t)) (number_is Execution c.in-Ok.ensures c.in-Execution.is))

pub returns-in-Priced : goal.returns-in-Priced
unfolding layout_of
returns-in-Priced c = sym (ap (λ (t : ℕ). widths_of (layout_of t)) (number_is Priced c.in-Ok.ensures c.in-Priced.is))

pub returns-in-Top : goal.returns-in-Top
unfolding layout_of
returns-in-Top c = sym (ap (λ (t : ℕ). widths_of (layout_of t)) (number_is Top c.in-Ok.ensures c.in-Top.is))

pub returns-in-Trade : goal.returns-in-Trade
unfolding layout_of
returns-in-Trade c = sym (ap (λ (t : ℕ). widths_of (layout_of t)) (number_is Trade c.in-Ok.ensures c.in-Trade.is))

pub returns-in-Imbalance : goal.returns-in-Imbalance
unfolding layout_of
returns-in-Imbalance c = sym (ap (λ (t : ℕ). widths_of (layout_of t)) (number_is Imbalance c.in-Ok.ensures c.in-Imbalance.is))

pub returns-in_default : goal.returns-in_default
returns-in_default c = ap (λ (fs : List Field). widths_of fs) (layout-unlisted c.args.kind (search rules))
