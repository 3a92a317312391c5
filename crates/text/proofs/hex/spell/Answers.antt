-- `text::hex::spell` meets its contract: a turn spells one byte more.
-- Assumes nothing.
use mathlib.Core.Path.{◌∙◌}
use Rattle.text.proofs.Spelling.{spelt_none, spelt_step, spelt_all}
use borrow.Author.Rules.{rules}
use Rattle.text.proofs.hex.spell.Goals as goal

pub loop-k-init : goal.loop-k-init
loop-k-init c =
    let a = c.args in
    (search rules, spelt_none a.out.now a.at a.bytes.now c.requires)

pub loop-k-preserved : goal.loop-k-preserved
loop-k-preserved c =
    let a = c.args in
    (search rules, spelt_step a.out.now a.at a.bytes.now c.requires c.loop-k.k c.loop-k-test.true _ _ _ c.loop-k.invariant.1 c.digits_of.ensures c.put_text.ensures)

pub returns : goal.returns
returns c =
    let a = c.args in
    c.loop-k.invariant.1 ∙ spelt_all a.out.now a.at a.bytes.now c.requires c.loop-k.k c.loop-k-test.false
