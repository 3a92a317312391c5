-- The replies, written one behind the other: each question adds its own.
-- Assumes nothing.
use Rattle.std.proofs.Common.{◌≡◌, ℕ, zero, suc, ◌+◌, ◌-◌, ◌*◌, ◌/◌, ◌≤◌, ◌<◌, List, ◌++◌, length, refl, ap, ap₂, ◌∙◌, sym, arith, append_assoc, Result, Ok, Err}
use mathlib.Core.List.{append-nil}
use native.Mathlib.Numerals.{add-one}
use borrow.Rule.Slice.PartMut.{put_mid}
use borrow.Author.Tests.{le-ltb, lt-ltb}
use lib.ListN.{length-append}
use Rattle.refusals.specs.declared.Refusal.{Refusal}
use Rattle.wire.specs.Number.{splice}
use Rattle.wire.proofs.Splice.{replaced}
use Rattle.wire.proofs.Place.{length-splice, splice_next, splice-none}
use Rattle.book.specs.Tables.{Tables}
use Rattle.book.specs.declared.asking.Level.{Level}
use Rattle.session.specs.Quoting.{count_in, numbers_of, question_at, questions_from, quote_of, quoted_of, quotes_after, quotes_of}

-- ---- so many replies, and one more

numbers_long : (r : Result Level Refusal) → length (numbers_of r) ≡ 4
numbers_long (Ok level) = refl
numbers_long (Err refusal) = refl

length_quote : (t : Tables) (question : List ℕ) → length (quote_of t question) ≡ 4
length_quote t question = numbers_long _

length_quotes : (t : Tables) (asked : List ℕ) (k n : ℕ) → length (quotes_of t (questions_from k n asked)) ≡ 4 * n
unfolding questions_from quotes_of
length_quotes t asked k zero = omega arith
length_quotes t asked k (suc n) =
    let one = length_quote t (question_at k asked) in
    let rest = length_quotes t asked (suc k) n in
    length-append (quote_of t (question_at k asked)) (quotes_of t (questions_from (suc k) n asked)) ∙ omega (arith, one, rest)

quotes_more : (t : Tables) (asked : List ℕ) (k n : ℕ) → quotes_of t (questions_from k (suc n) asked) ≡ quotes_of t (questions_from k n asked) ++ quote_of t (question_at (k + n) asked)
unfolding questions_from quotes_of
quotes_more t asked k zero =
    let same : k ≡ k + 0 = omega arith in
    append-nil (quote_of t (question_at k asked)) ∙ ap (λ (j : ℕ). quote_of t (question_at j asked)) same
quotes_more t asked k (suc n) =
    let one = quote_of t (question_at k asked) in
    let rest = quotes_of t (questions_from (suc k) n asked) in
    let same : suc k + n ≡ k + suc n = omega arith in
    ap (λ (l : List ℕ). one ++ l) (quotes_more t asked (suc k) n)
    ∙ sym (append_assoc one rest (quote_of t (question_at (suc k + n) asked)))
    ∙ ap (λ (j : ℕ). (one ++ rest) ++ quote_of t (question_at j asked)) same

-- ---- where the writing is: the replies to the questions before one stand

pub record Standing (t : Tables) (asked whole replies : List ℕ) (k : ℕ) : Type 0 where
  pub written : replies ≡ splice whole 0 (quotes_of t (questions_from 0 k asked))

module _ (t : Tables) (asked whole : List ℕ) where
  pub standing_start : Standing t asked whole whole 0
  unfolding questions_from quotes_of
  standing_start = record { written = sym (splice-none whole 0) }

  module _ {replies : List ℕ} {k : ℕ} (s : Standing t asked whole replies k) where
    pub standing_long : 4 * k ≤ length whole → length replies ≡ length whole
    standing_long room =
        let long = length_quotes t asked 0 k in
        ap length s.written ∙ length-splice whole 0 (quotes_of t (questions_from 0 k asked)) (omega (arith, long, room))

    pub standing_step : {after : List ℕ} → 4 * k + 4 ≤ length whole → after ≡ splice replies (4 * k) (quote_of t (question_at k asked)) → Standing t asked whole after (k + 1)
    standing_step {after} room e =
        let before = quotes_of t (questions_from 0 k asked) in
        let long : length before ≡ 4 * k = length_quotes t asked 0 k in
        let place : 4 * k ≡ 0 + length before = omega (arith, long) in
        let none : 0 + k ≡ k = omega arith in
        let one = length_quote t (question_at k asked) in
        record {
          written =
              e
              ∙ ap₂ (λ (l : List ℕ) (p : ℕ). splice l p (quote_of t (question_at k asked))) s.written place
              ∙ splice_next whole 0 before (quote_of t (question_at k asked)) (omega (arith, long, one))
              ∙ ap (λ (j : ℕ). splice whole 0 (before ++ quote_of t (question_at j asked))) (sym none)
              ∙ ap (splice whole 0) (sym (quotes_more t asked 0 k))
              ∙ ap (λ (n : ℕ). splice whole 0 (quotes_of t (questions_from 0 n asked))) (sym (add-one k));
        }

    -- the reply to the question at hand is put behind them
    pub standing_put : {new : List ℕ} → 4 * k + 4 ≤ length whole → new ≡ quote_of t (question_at k asked) → Standing t asked whole (put_mid (4 * k) (4 * k + 4 - 4 * k) replies new) (k + 1)
    standing_put {new} room e =
        standing_step room
        (ap (λ (n : ℕ). put_mid (4 * k) (4 * k + n - 4 * k) replies new) (sym (length_quote t (question_at k asked))) ∙ replaced replies (4 * k) (quote_of t (question_at k asked)) new e)

    -- all are answered
    pub standing_end : 4 * count_in asked ≤ length whole → k ≡ count_in asked → replies ≡ quotes_after t asked whole
    unfolding quotes_after
    standing_end room all =
        s.written ∙ ap (λ (n : ℕ). splice whole 0 (quotes_of t (questions_from 0 n asked))) all ∙ sym (simp (le-ltb (length whole) (4 * count_in asked) room))

  -- the replies do not fit
  pub quotes_short : length whole < 4 * count_in asked → whole ≡ quotes_after t asked whole
  unfolding quotes_after
  quotes_short few = sym (simp (lt-ltb (length whole) (4 * count_in asked) few))

pub quoted_short : (bytes n : ℕ) → n < 4 * (bytes / 15) → 11 ≡ quoted_of bytes n
unfolding quoted_of
quoted_short bytes n few = sym (simp (lt-ltb n (4 * (bytes / 15)) few))

pub quoted_all : (bytes n : ℕ) → 4 * (bytes / 15) ≤ n → 0 ≡ quoted_of bytes n
unfolding quoted_of
quoted_all bytes n enough = sym (simp (le-ltb n (4 * (bytes / 15)) enough))
