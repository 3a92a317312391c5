-- `text::hex::parse` meets its contract, an answer a case.
-- Assumes nothing.
use mathlib.Core.Path.{◌∙◌, sym}
use Prim.Native.Nat.{◌/◌}
use native.Mathlib.Omega.{arith}
use lib.ListN.{length}
use Rattle.text.proofs.Pairs.{read_dash, read_none, read_short, read_filled, too_few, by_pairs, odd_none}
use borrow.Author.Rules.{rules}
use Rattle.text.proofs.hex.parse.Goals as goal

pub returns-then-is_dash : goal.returns-then-is_dash
returns-then-is_dash c = read_dash _ _ _ (sym c.is_dash.ensures ∙ c.if-is_dash.true)

pub returns-then-count-eq0 : goal.returns-then-count-eq0
returns-then-count-eq0 c =
    let d = c.before.before.before in
    let s = d.args.word.now in
    let plain = sym d.is_dash.ensures ∙ c.if-is_dash.false in
    read_none _ _ _ (too_few s plain (omega arith))

pub returns-then-count-word : goal.returns-then-count-word
returns-then-count-word c =
    let d = c.before.before.before.before in
    let s = d.args.word.now in
    let plain = sym d.is_dash.ensures ∙ c.if-is_dash.false in
    read_none _ _ _ (sym (odd_none s (length s / 2) (omega arith)) ∙ by_pairs s plain (omega arith))

pub returns-then-out-count : goal.returns-then-out-count
returns-then-out-count c =
    let d = c.before.before.before.before.before in
    let s = d.args.word.now in
    let plain = sym d.is_dash.ensures ∙ c.if-is_dash.false in
    read_short _ _ _ (omega arith)

pub returns-then-fill : goal.returns-then-fill
returns-then-fill c =
    let d = c.before.before.before.before.before.before.before.before.before in
    let s = d.args.word.now in
    let plain = sym d.is_dash.ensures ∙ c.if-is_dash.false in
    read_filled _ _ _ _ _ (search rules) c.fill.ensures c.if-fill.true (by_pairs s plain (omega arith))

pub returns : goal.returns
returns c =
    let d = c.before.before.before.before.before.before.before.before.before.before in
    let s = d.args.word.now in
    let plain = sym d.is_dash.ensures ∙ c.if-is_dash.false in
    read_none _ _ _ (sym c.if-fill.false ∙ c.fill.ensures.is ∙ by_pairs s plain (omega arith))
