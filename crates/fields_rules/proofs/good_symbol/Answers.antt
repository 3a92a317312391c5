-- `good_symbol` answers as its rule does.
use Rattle.std.proofs.Common.{rules, tests, ◌∙◌, sym, eq-eqb, ne_eqb}
use mathlib.Core.Bool.{and-false, and-true}
use Rattle.std.proofs.lemmas.Iterator.{YieldsList-from_slice}
use Rattle.std.proofs.lemmas.Iterator.Search.{all_from_yields_List}
use Rattle.fields.specs.Tests.{between}
use Rattle.fields.specs.Rules.{is_printable, good_symbol}
use Rattle.fields.proofs.Tests.{all_listed}
use Rattle.fields_rules.proofs.good_symbol.Goals as goal

pub returns-then-symbol-ne32 : goal.returns-then-symbol-ne32
unfolding good_symbol between
returns-then-symbol-ne32 c =
    all_from_yields_List is_printable _ _ _ c.all.ensures.ran (YieldsList-from_slice c.args.symbol c.iter.ensures.rest) (λ x b q k. search (rules, tests))
    ∙ sym (all_listed is_printable c.args.symbol 14 (search rules))
    ∙ simp (ne_eqb _ _ c.if-symbol-ne32.true, and-true)

pub returns-else-symbol-ne32 : goal.returns-else-symbol-ne32
unfolding good_symbol
returns-else-symbol-ne32 c = simp (eq-eqb _ _ c.if-symbol-ne32.false, and-false)
