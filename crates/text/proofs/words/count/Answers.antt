-- `text::words::count` meets its contract: a turn takes one part more.
-- Assumes nothing.
use Rattle.std.proofs.Common.{rules, tests, eqb, sym, arith, [], ◌∷◌}
use lib.ListN.{length-append}
use Rattle.std.proofs.lemmas.Iterator.Splits.{YieldsList-from_slice_split}
use Rattle.text.proofs.Split.{turn, end, counted_start, counted_empty, counted_more, counted_end}
use Rattle.text.proofs.words.count.Goals as goal

pub loop-word-init : goal.loop-word-init
loop-word-init c = (search rules, counted_start c.args.line.now)

pub returns-then-is_empty : goal.returns-then-is_empty
returns-then-is_empty c =
    let at = turn _ _ _ _ _ c.loop-word.yielded_by c.next.ensures.steps c.in-Some.is (YieldsList-from_slice_split _ (λ b. eqb b 32) c.args.line.now (cc) (cc) (cc) (λ x b q k. search (rules, tests))) in
    counted_empty c.args.line.now c.loop-word.words c.loop-word.invariant.1 c.in-Some.word.now (rw c.loop-word.invariant.0 at.0) (rw c.loop-word.invariant.0 at.1) (search rules)

pub loop-word-preserved : goal.loop-word-preserved
loop-word-preserved c =
    let at = turn _ _ _ _ _ c.loop-word.yielded_by c.next.ensures.steps c.in-Some.is (YieldsList-from_slice_split _ (λ b. eqb b 32) c.args.line.now (cc) (cc) (cc) (λ x b q k. search (rules, tests))) in
    (rw c.loop-word.invariant.0 (sym (length-append c.loop-word.yielded (c.in-Some.word ∷ []))), counted_more c.args.line.now c.loop-word.words c.loop-word.invariant.1 c.in-Some.word.now (rw c.loop-word.invariant.0 at.0) (rw c.loop-word.invariant.0 at.1) (search rules))

pub returns : goal.returns
returns c =
    let all = end _ _ _ _ c.loop-word.yielded_by c.next.ensures.steps c.in-None.is (YieldsList-from_slice_split _ (λ b. eqb b 32) c.args.line.now (cc) (cc) (cc) (λ x b q k. search (rules, tests))) in
    counted_end c.args.line.now c.loop-word.words c.loop-word.invariant.1 (omega (arith, all, c.loop-word.invariant.0))
