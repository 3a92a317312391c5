-- `packet::flagged` meets its contract: each way out is the first of 4, 5 and 6 that applies.
-- Assumes nothing.
use mathlib.Core.Path.{ap, ◌∙◌}
use borrow.Author.Tests.{eq-eqb, ne_eqb}
use Rattle.packet.specs.Header.{flag_tests, told}
use Rattle.packet.proofs.header.flagged.Goals as goal

pub returns-then-flag-ne0 : goal.returns-then-flag-ne0
unfolding flag_tests
returns-then-flag-ne0 c = ap told c.rejected.ensures ∙ simp (ne_eqb _ _ c.if-flag-ne0.true)

pub returns-then-size-ne-BARE : goal.returns-then-size-ne-BARE
unfolding flag_tests
returns-then-size-ne-BARE c = ap told c.rejected-then-size-ne-BARE.ensures ∙ simp (eq-eqb _ _ c.if-flag-ne0.false, eq-eqb _ _ c.if-flag-eq1.true, ne_eqb _ _ c.if-size-ne-BARE.true)

pub returns-then-messages-ne0 : goal.returns-then-messages-ne0
unfolding flag_tests
returns-then-messages-ne0 c = ap told c.rejected-then-messages-ne0.ensures ∙ simp (eq-eqb _ _ c.if-flag-ne0.false, eq-eqb _ _ c.if-flag-eq1.true, eq-eqb _ _ c.if-size-ne-BARE.false, ne_eqb _ _ c.if-messages-ne0.true)

pub returns-then-flag-eq1 : goal.returns-then-flag-eq1
unfolding flag_tests
returns-then-flag-eq1 c = simp (eq-eqb _ _ c.if-flag-ne0.false, eq-eqb _ _ c.if-flag-eq1.true, eq-eqb _ _ c.if-size-ne-BARE.false, eq-eqb _ _ c.if-messages-ne0.false)

pub returns-then-messages-eq0 : goal.returns-then-messages-eq0
unfolding flag_tests
returns-then-messages-eq0 c = ap told c.rejected-then-messages-eq0.ensures ∙ simp (eq-eqb _ _ c.if-flag-ne0.false, ne_eqb _ _ c.if-flag-eq1.false, eq-eqb _ _ c.if-messages-eq0.true)

pub returns : goal.returns
unfolding flag_tests
returns c = simp (eq-eqb _ _ c.if-flag-ne0.false, ne_eqb _ _ c.if-flag-eq1.false, ne_eqb _ _ c.if-messages-eq0.false)
