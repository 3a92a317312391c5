-- `text::words::word` meets its contract: the words are the parts that `split` gives.
-- Assumes nothing.
use Rattle.std.proofs.Common.{rules, tests, refl, eqb, ◌∙◌, ap}
use Rattle.std.proofs.lemmas.Iterator.Consumers.{nth_from_yields_List}
use Rattle.std.proofs.lemmas.Iterator.Splits.{YieldsList-from_slice_split}
use Rattle.text.proofs.Split.{nth_word}
use Rattle.text.proofs.words.word.Goals as goal

pub returns : goal.returns
returns c =
    ap (λ x. x.now) c.unwrap_or.ensures
    ∙ nth_word c.args.line.now c.args.number c.nth.result _ (nth_from_yields_List _ _ _ c.nth.ensures.ran (YieldsList-from_slice_split _ (λ b. eqb b 32) c.args.line.now c.split.ensures.rest c.split.ensures.done c.split.ensures.closure (λ x b q k. search (rules, tests)))) refl
