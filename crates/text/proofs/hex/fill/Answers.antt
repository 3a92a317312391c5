-- `text::hex::fill` meets its contract: the bytes so far, and those of the digits behind them, are the word's.
-- Assumes nothing.
use mathlib.Core.Path.{◌≡◌, ◌∙◌, sym}
use Prim.Native.Nat.{ℕ}
use native.Mathlib.Omega.{arith}
use lib.ListN.{length-set}
use Rattle.text.proofs.Pairs.{pairs_more, pairs_none, pairs_all, bytes_more, bytes_all}
use Rattle.text.proofs.hex.fill.Goals as goal

pub returns-in_default : goal.returns-in_default
returns-in_default c =
    let s = c.args.word.now in
    let k = c.loop-k.k in
    record { is = sym (pairs_none s k (omega arith) 256 c.in_default.ensures.is (omega arith)) ∙ c.loop-k.invariant.1; bytes = λ e. absurd (let z : ◌≡◌ {A = ℕ} 0 1 = cc in omega arith) }

pub loop-k-preserved : goal.loop-k-preserved
loop-k-preserved c =
    let s = c.args.word.now in
    let k = c.loop-k.k in
    let p = c.in-Some.ensures in
    (simp length-set (omega arith), sym (pairs_more s k (omega arith) _ p.is (omega arith)) ∙ c.loop-k.invariant.1, sym (bytes_more s k (omega arith) _ p.is c.loop-k.out (omega arith)) ∙ c.loop-k.invariant.2)

pub returns : goal.returns
returns c =
    let s = c.args.word.now in
    let same : c.loop-k.k ≡ c.args.count = omega arith in
    record { is = sym (pairs_all s c.loop-k.k (omega arith)) ∙ c.loop-k.invariant.1; bytes = λ e. rw (← same) (sym (bytes_all s c.loop-k.k c.loop-k.out (omega arith)) ∙ c.loop-k.invariant.2) }
