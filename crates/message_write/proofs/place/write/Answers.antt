-- `message_write::write` meets its contract: a refusal leaves the buffer, a count has put the header and the fields.
-- Assumes nothing.
use mathlib.Core.Path.{◌∙◌, sym}
use native.Mathlib.Omega.{arith}
use Rattle.message_write.proofs.Writing.{counted, kept, placed, unwritten}
use Rattle.message_write.proofs.place.write.Goals as goal

pub returns-in_default : goal.returns-in_default
returns-in_default c =
    let e = unwritten _ _ _ c.in_default.ensures in
    record { answer = e; buffer = kept _ _ _ (sym e) }

pub returns-in_err-size-clause-buffer : goal.returns-in_err-size-clause-buffer
returns-in_err-size-clause-buffer c = kept _ _ _ (sym c.in_err-size.ensures)

pub overflow_cast-size : goal.overflow_cast-size
overflow_cast-size c = let k = counted _ _ _ _ (sym c.in_ok-size.ensures) in omega arith

pub head-requires : goal.head-requires
head-requires c = let k = counted _ _ _ _ (sym c.in_ok-size.ensures) in omega arith

pub overflow_add-at : goal.overflow_add-at
overflow_add-at c = let k = counted _ _ _ _ (sym c.in_ok-size.ensures) in omega arith

pub fields-requires : goal.fields-requires
fields-requires c = let k = counted _ _ _ _ (sym c.in_ok-size.ensures) in omega arith

pub returns : goal.returns
returns c =
    let e = sym c.in_ok-size.ensures in
    record { answer = sym e; buffer = placed _ _ _ e (c.number.ensures ∙ c.in-Some.ensures) c.head.ensures c.fields.ensures }
