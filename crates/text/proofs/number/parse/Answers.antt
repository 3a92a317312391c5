-- `text::number::parse` meets its contract: what the rest of the word gives behind the number so far is the answer.
-- Assumes nothing.
use mathlib.Core.Path.{◌∙◌, sym}
use native.Mathlib.Omega.{arith}
use Rattle.text.proofs.Numbers.{goes_on, no_digit, too_large, at_end, at_start_lem, no_word, is_none}
use borrow.Author.Rules.{rules}
use Rattle.text.proofs.number.parse.Goals as goal

pub returns-then-is_empty : goal.returns-then-is_empty
returns-then-is_empty c = is_none _ _ (no_word _ _ (search rules))

pub loop-c-init : goal.loop-c-init
loop-c-init c = (search rules, at_start_lem _ _ (search rules))

pub returns-in_err-digit : goal.returns-in_err-digit
returns-in_err-digit c =
    rw c.from_residual.ensures
    (is_none _ _ (sym c.loop-c.invariant.1 ∙ no_digit _ _ _ _ c.loop-c-test.true 10 c.in_err-digit.ensures.is (omega arith)))

pub returns-then-limit-digit : goal.returns-then-limit-digit
returns-then-limit-digit c =
    is_none _ _ (sym c.loop-c.invariant.1 ∙ too_large _ _ _ _ c.loop-c-test.true _ c.in_ok-digit.ensures.is c.in_ok-digit.ensures.most (omega arith))

pub returns-then-limit-digit-2 : goal.returns-then-limit-digit-2
returns-then-limit-digit-2 c =
    is_none _ _ (sym c.loop-c.invariant.1 ∙ too_large _ _ _ _ c.loop-c-test.true _ c.in_ok-digit.ensures.is c.in_ok-digit.ensures.most (omega arith))

pub loop-c-preserved : goal.loop-c-preserved
loop-c-preserved c =
    (search rules, sym (goes_on _ _ _ _ c.loop-c-test.true _ c.in_ok-digit.ensures.is c.in_ok-digit.ensures.most (omega arith)) ∙ c.loop-c.invariant.1)

pub returns : goal.returns
returns c = record { is = sym (at_end _ _ _ _ c.loop-c-test.false) ∙ c.loop-c.invariant.1; within = search rules }
