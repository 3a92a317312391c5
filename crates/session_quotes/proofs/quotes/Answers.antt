-- The replies to the questions so far stand one behind the other.
-- Assumes nothing.
use Rattle.std.proofs.Common.{ℕ, ◌+◌, ◌*◌, List, length, take, get_or, ap, ◌∙◌, arith}
use Rattle.book.specs.Asking.{best_for}
use Rattle.session.specs.Meaning.{live_in}
use Rattle.session.specs.Quoting.{numbers_of}
use Rattle.session.proofs.Answers.{live_few, orders_few}
use Rattle.session_quotes.proofs.Quests.{quoted_all, quoted_short, quotes_short, standing_end, standing_put, standing_start}
use Rattle.session_quotes.proofs.quotes.Goals as goal

pub returns-then-replies-count : goal.returns-then-replies-count
returns-then-replies-count c = record {
  refusal = quoted_short (length c.args.asked.now) (length c.args.replies.now) c.if-replies-count.true;
  replies = quotes_short _ _ _ c.if-replies-count.true;
}

pub loop-k-init : goal.loop-k-init
loop-k-init c = standing_start _ _ _

pub best-answer-requires : goal.best-answer-requires
best-answer-requires c = orders_few c.requires.1

pub shared_ref_as_front-orders : goal.shared_ref_as_front-orders
shared_ref_as_front-orders c = live_few c.requires.1

pub loop-k-preserved : goal.loop-k-preserved
loop-k-preserved c =
    let a = c.args in
    let answer =
    c.best-answer.ensures
    ∙ ap (λ (symbol : List ℕ). best_for (take (live_in a.room.now) a.session.now.orders) symbol (get_or a.asked.now (15 * c.loop-k.k + 14) 0)) c.text_at-symbol.ensures in
    standing_put _ _ _ c.loop-k.invariant (omega (arith, c.loop-k-test.true, c.if-replies-count.false)) (c.copy_from_slice.ensures.after ∙ c.numbers.ensures ∙ ap numbers_of answer)

pub returns : goal.returns
returns c = record {
  refusal = quoted_all (length c.args.asked.now) (length c.args.replies.now) c.if-replies-count.false;
  replies = standing_end _ _ _ c.loop-k.invariant c.if-replies-count.false (omega (arith, c.loop-k-test.false, c.loop-k.auto.k-end));
}
