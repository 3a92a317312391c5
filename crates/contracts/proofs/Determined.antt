-- Each call's contract determines its answer, and the later content of all memory that it was lent.
-- Assumes nothing.
use mathlib.Core.Path.{◌≡◌, refl, ap, ◌∙◌, sym}
use base.Logic.{emp}
use borrow.Fn.Claims.{AllOf}
use borrow.Fn.Read.{Read, all_models, no_know, r_last}
use borrow.Fn.World.{Pr, World}
use Rattle.std.proofs.Common.{ℕ, false, true, eqb, Option, None, Some, Result, Ok, Err}
use Rattle.refusals.specs.Refusals.{number_of, refusal_by, refusal_in, refusal_or_none}
use Rattle.refusals.specs.declared.Refusal.{Refusal}
use Rattle.refusals.proofs.Numbers.{by_number, some_number}
use Rattle.packet.proofs.Headers.{told_once}
use Rattle.packet_reader.specs.Cursors.{Lent, lent_if}
use Rattle.packet_reader.specs.Steps.{seen}
use Rattle.packet_reader.specs.declared.read.Reader as reader_in
use Rattle.session.specs.Meaning.{Held, Ruled, held}
use Rattle.session.specs.declared.state.Session.{Session}
use Rattle.fields.proofs.id.value.Reads as fields_value
use Rattle.fields.proofs.id.good_id.Reads as fields-good-id
use Rattle.fields_rules.proofs.good_symbol.Reads as fields-good-symbol
use Rattle.fields_rules.proofs.good_side.Reads as fields-good-side
use Rattle.fields_rules.proofs.good_trade_side.Reads as fields-good-trade-side
use Rattle.fields_rules.proofs.good_quantity.Reads as fields-good-quantity
use Rattle.fields_rules.proofs.good_price.Reads as fields-good-price
use Rattle.fields_rules.proofs.good_inside_price.Reads as fields-good-inside-price
use Rattle.fields_rules.proofs.good_unsolicited.Reads as fields-good-unsolicited
use Rattle.fields_rules.proofs.good_session.Reads as fields-good-session
use Rattle.message_read.proofs.read.Reads as message-read
use Rattle.message_write.proofs.write.Reads as writing-write
use Rattle.packet.proofs.write_header.Reads as packet-write-header
use Rattle.packet.proofs.read_header.Reads as packet-read-header
use Rattle.packet_judge.proofs.judge.Reads as packet-judge
use Rattle.packet_reader.proofs.judge.judge.Reads as reader-judge
use Rattle.packet_reader.proofs.frame_of.Reads as reader-frame-of
use Rattle.packet_reader.proofs.message_of.Reads as reader-message-of
use Rattle.packet_reader.proofs.plain.opened.Reads as reader-opened
use Rattle.packet_reader.proofs.plain.refused.Reads as reader-refused
use Rattle.packet_reader.proofs.plain.stepped.Reads as reader-stepped
use Rattle.packet_reader.proofs.read.ReaderIterator.next.Reads as reader-next
use Rattle.packet_reader.specs.contracts.read.open as reader-open
use Rattle.packet_reader.specs.contracts.read.refusal as reader-refusal
use Rattle.packet_reader.specs.contracts.read.step as reader-step
use Rattle.book.proofs.asking.best.Reads as book-best
use Rattle.session.proofs.state.Session.open.Reads as session-open
use Rattle.session.proofs.packets.take.Reads as session-take
use Rattle.session.proofs.packets.burst.Reads as session-burst
use Rattle.session.proofs.packets.apply.Reads as session-apply
use Rattle.session_keeping.proofs.keeping.keep.Reads as session-keep
use Rattle.session_keeping.proofs.keeping.keep_burst.Reads as session-keep-burst
use Rattle.session_keeping.proofs.passing.pass.Reads as session-pass
use Rattle.session.proofs.asking.next.Reads as session-next
use Rattle.session.proofs.asking.end.Reads as session-end
use Rattle.session.proofs.asking.lowest.Reads as session_lowest
use Rattle.session.proofs.asking.code.Reads as session-code
use Rattle.session.proofs.asking.faults.Reads as session-faults
use Rattle.session.proofs.asking.doubtful.Reads as session-doubtful
use Rattle.session.proofs.asking.rule.Reads as session-rule
use Rattle.session.proofs.asking.unlisted.Reads as session-unlisted
use Rattle.session.proofs.asking.order.Reads as session-order
use Rattle.session.proofs.asking.best.Reads as session-best
use Rattle.session.proofs.asking.inside.Reads as session-inside
use Rattle.session.proofs.asking.gap.Reads as session-gap
use Rattle.session.proofs.asking.requests.Reads as session-requests
use Rattle.exports.proofs.jangsebit_value.Reads as exports-value
use Rattle.exports.proofs.jangsebit_header.Reads as exports-header
use Rattle.exports.proofs.jangsebit_write_header.Reads as exports-write-header
use Rattle.exports.proofs.jangsebit_judge.Reads as exports-judge
use Rattle.exports.proofs.jangsebit_walk.Reads as exports-walk
use Rattle.exports.proofs.jangsebit_message.Reads as exports-message
use Rattle.exports.proofs.jangsebit_write_message.Reads as exports-write-message
use Rattle.exports.proofs.jangsebit_sizes.Reads as exports-sizes
use Rattle.exports.proofs.jangsebit_numbers.Reads as exports-numbers
use Rattle.exports.proofs.jangsebit_inside.Reads as exports-inside
use Rattle.exports.proofs.jangsebit_requests.Reads as exports-requests
use Rattle.exports.proofs.jangsebit_gap.Reads as exports-gap
use Rattle.exports.proofs.jangsebit_pass.Reads as exports-pass
use Rattle.exports.proofs.jangsebit_keep.Reads as exports-keep
use Rattle.exports.proofs.jangsebit_keep_packets.Reads as exports-keep-packets
use Rattle.exports.proofs.jangsebit_lowest.Reads as exports-lowest
use Rattle.exports.proofs.jangsebit_rule.Reads as exports-rule
use Rattle.exports.proofs.jangsebit_unlisted.Reads as exports-unlisted
use Rattle.exports.specs.contracts.jangsebit_open as exports-open
use Rattle.exports.specs.contracts.jangsebit_open_strict as exports-open-strict
use Rattle.exports.specs.contracts.jangsebit_packets as exports-packets
use Rattle.exports.specs.contracts.jangsebit_apply as exports-apply
use Rattle.exports.specs.contracts.jangsebit_order as exports-order
use Rattle.exports.specs.contracts.jangsebit_quotes as exports-quotes

-- the one law: two answers that are both what the definition names are one
pub once {ℓ} : {A : Type ℓ} {named one other : A} → one ≡ named → other ≡ named → one ≡ other
once e f = e ∙ sym f

-- of any two outcomes that a contract admits for one argument, this part is the same
abbrev Fixes : {K : Type 0} {A R S T : K → Type 0} → ((κs : K) → A κs → R κs → S κs → Type 0) → ((κs : K) → R κs → S κs → T κs) → Type 0
Fixes {K} {A} {R} {S} contract part = (κs : K) (a : A κs) (one other : R κs) (s t : S κs) → contract κs a one s → contract κs a other t → part κs one s ≡ part κs other t

-- the answer itself is the same
abbrev Once : {K : Type 0} {A R S : K → Type 0} → ((κs : K) → A κs → R κs → S κs → Type 0) → Type 0
Once contract = Fixes contract (λ κs r s. r)

-- a part for which the contract names a value
named : {K : Type 0} {A R S T : K → Type 0} {contract : (κs : K) → A κs → R κs → S κs → Type 0} {part : (κs : K) → R κs → S κs → T κs} {name : (κs : K) → A κs → T κs} → ((κs : K) (a : A κs) (r : R κs) (s : S κs) → contract κs a r s → part κs r s ≡ name κs a) → Fixes contract part
named tells κs a one other s t p q = once (tells κs a one s p) (tells κs a other t q)

-- ---- refusals: the number says which it is, and 0 that there is none

number_once : (one other : Refusal) → number_of one ≡ number_of other → one ≡ other
number_once one other e = sym (by_number one) ∙ ap refusal_by e ∙ by_number other

no_number : (r : Refusal) → number_of r ≡ 0 → ⊥
no_number r e = absurd_test (sym (some_number r) ∙ ap (λ (n : ℕ). eqb n 0) e)
  where
    absurd_test : false ≡ true → ⊥
    absurd_test h = cc

some_once : (one other : Option Refusal) → refusal_or_none one ≡ refusal_or_none other → one ≡ other
some_once None None e = refl
some_once None (Some r) e = absurd (no_number r (sym e))
some_once (Some r) None e = absurd (no_number r e)
some_once (Some r) (Some q) e = ap Some (number_once r q e)

refused_once : (one other : Result (Unit {0}) Refusal) → refusal_in one ≡ refusal_in other → one ≡ other
refused_once (Ok u) (Ok v) e = refl
refused_once (Ok u) (Err r) e = absurd (no_number r (sym e))
refused_once (Err r) (Ok u) e = absurd (no_number r e)
refused_once (Err r) (Err q) e = ap Err (number_once r q e)

-- ---- fields

pub record Fields : Type 0 where
  pub fields_value_once : Once fields_value.Post
  pub fields_good_id_once : Once fields-good-id.Post
  pub fields_good_symbol_once : Once fields-good-symbol.Post
  pub fields_good_side_once : Once fields-good-side.Post
  pub fields_good_trade_side_once : Once fields-good-trade-side.Post
  pub fields_good_quantity_once : Once fields-good-quantity.Post
  pub fields_good_price_once : Once fields-good-price.Post
  pub fields_good_inside_price_once : Once fields-good-inside-price.Post
  pub fields_good_unsolicited_once : Once fields-good-unsolicited.Post
  pub fields_good_session_once : Once fields-good-session.Post

pub fields : Fields
fields = search once

-- ---- message, writing, packet

pub record Messages : Type 0 where
  pub message_read_once : Once message-read.Post
  pub writing_write_once : Once writing-write.Post
  pub writing_write_memory : Fixes writing-write.Post (λ κs r s. s.1.0.now)
  pub packet_write_header_once : Once packet-write-header.Post
  pub packet_write_header_memory : Fixes packet-write-header.Post (λ κs r s. s.1.0.now)
  pub packet_read_header_once : Once packet-read-header.Post
  pub packet_judge_once : Once packet-judge.Post

pub messages : Messages
messages =
    record {
      message_read_once = named (λ κs a r s p. p);
      writing_write_once = named (λ κs a r s p. p.0);
      writing_write_memory = named (λ κs a r s p. p.1);
      packet_write_header_once = named (λ κs a r s p. p.0);
      packet_write_header_memory = named (λ κs a r s p. p.1);
      packet_read_header_once = named (λ κs a r s p. p);
      packet_judge_once = λ κs a one other s t p q. told_once one other (once p q);
    }

-- ---- reader

pub record Reader : Type 0 where
  pub reader_judge_once : Once reader-judge.Post
  pub reader_frame_of_once : Once reader-frame-of.Post
  pub reader_opened_once : Once reader-opened.Post
  pub reader_refused_once : Once reader-refused.Post
  pub reader_stepped_once : Once reader-stepped.Post
  -- where the part lies and what it holds; the loan's own name is the checker's matter
  pub reader_message_of_once : Fixes reader-message-of.Post (λ κs r s. lent_if r)
  -- as a step: the part, and the reader behind it
  pub reader_next_once : Fixes {T = λ κs. Option Lent × reader_in.Reader} reader-next.Post (λ κs r s. (lent_if r, s.0.now))

pub reader : Reader
reader =
    record {
      reader_judge_once = λ κs a one other s t p q. refused_once one other (once p q);
      reader_frame_of_once = named (λ κs a r s p. p);
      reader_opened_once = named (λ κs a r s p. p);
      reader_refused_once = λ κs a one other s t p q. some_once one other (once p q);
      reader_stepped_once = named (λ κs a r s p. p);
      reader_message_of_once = named (λ κs a r s p. p);
      reader_next_once = named (λ κs a r s p. p.0);
    }

-- Of the calls that are lent a reader or the orders each clause stands by itself: what it tells, at every model of the logic.
abbrev Told : ((w : World) → Pr w) → Type 2
Told clause = Read (λ w. emp w.𝓤) no_know clause

abbrev open_told : (κs : _) (packet : _) (both : _) (r : _) → Told (λ w. reader-open.ensures-1 w.𝓛 κs w.𝓜.mem w.𝓡.run packet both r)
open_told κs packet both r = all_models _ (λ w. r_last _) (λ w. refl) (λ w. refl) (λ w. refl)

abbrev refusal_told : (κs : _) (reader : _) (both : _) (r : _) → Told (λ w. reader-refusal.ensures-1 w.𝓛 κs w.𝓜.mem w.𝓡.run reader both r)
refusal_told κs lent_to both r = all_models _ (λ w. r_last _) (λ w. refl) (λ w. refl) (λ w. refl)

abbrev step_told : (κs : _) (reader : _) (both : _) (r : _) → Told (λ w. reader-step.ensures-1 w.𝓛 κs w.𝓜.mem w.𝓡.run reader both r)
step_told κs lent_to both r = all_models _ (λ w. r_last _) (λ w. refl) (λ w. refl) (λ w. refl)

pub reader_open_once : (κs : _) (packet : _) (both : _) (one other : _) → AllOf (open_told κs packet both one).tells → AllOf (open_told κs packet both other).tells → one ≡ other
reader_open_once κs packet both one other = once

pub reader_refusal_once : (κs : _) (reader : _) (both : _) (one other : _) → AllOf (refusal_told κs reader both one).tells → AllOf (refusal_told κs reader both other).tells → one ≡ other
reader_refusal_once κs lent_to both one other = once

pub reader_step_once : (κs : _) (reader : _) (both : _) (one other : _) → AllOf (step_told κs reader both one).tells → AllOf (step_told κs reader both other).tells → seen one ≡ seen other
reader_step_once κs lent_to both one other = once

-- ---- book

pub book_best_once : Once book-best.Post
book_best_once κs a one other s t = once

-- ---- session

-- what is held behind a call is one, so the session in it is, and the room and the window that were lent
session_of : {one other : Held} → one ≡ other → one.session ≡ other.session
session_of = ap (λ (h : Held). h.session)

room_of : {one other : Held} → one ≡ other → one.room ≡ other.room
room_of = ap (λ (h : Held). h.room)

window_of_lem : {one other : Held} → one ≡ other → one.window ≡ other.window
window_of_lem = ap (λ (h : Held). h.window)

pub record Sessions : Type 0 where
  pub session_open_once : Once session-open.Post
  pub session_open_room : Fixes session-open.Post (λ κs r s. s.1.1.0.now)
  pub session_open_window : Fixes session-open.Post (λ κs r s. s.1.1.1.0.now)
  pub session_take_once : Once session-take.Post
  pub session_take_room : Fixes session-take.Post (λ κs r s. s.1.0.now)
  pub session_take_window : Fixes session-take.Post (λ κs r s. s.1.1.0.now)
  pub session_burst_once : Once session-burst.Post
  pub session_burst_room : Fixes session-burst.Post (λ κs r s. s.1.0.now)
  pub session_burst_window : Fixes session-burst.Post (λ κs r s. s.1.1.0.now)
  pub session_burst_answers : Fixes session-burst.Post (λ κs r s. s.1.1.1.1.1.0.now)
  pub session_pass_once : Once session-pass.Post
  -- with whatever session it is held
  pub session_pass_room : (κs : _) (a : _) (one other : _) (s t : _) → session-pass.Post κs a one s → session-pass.Post κs a other t → (session : Session) → Ruled (held session a.0.now a.1.0.now) → s.0.now ≡ t.0.now
  pub session_pass_window : (κs : _) (a : _) (one other : _) (s t : _) → session-pass.Post κs a one s → session-pass.Post κs a other t → (session : Session) → Ruled (held session a.0.now a.1.0.now) → s.1.0.now ≡ t.1.0.now
  pub session_keep_once : Once session-keep.Post
  pub session_keep_room : (κs : _) (a : _) (one other : _) (s t : _) → session-keep.Post κs a one s → session-keep.Post κs a other t → (session : Session) → Ruled (held session a.0.now a.1.0.now) → s.0.now ≡ t.0.now
  pub session_keep_window : (κs : _) (a : _) (one other : _) (s t : _) → session-keep.Post κs a one s → session-keep.Post κs a other t → (session : Session) → Ruled (held session a.0.now a.1.0.now) → s.1.0.now ≡ t.1.0.now
  pub session_keep_burst_once : Once session-keep-burst.Post
  pub session_keep_burst_answers : Fixes session-keep-burst.Post (λ κs r s. s.1.1.1.1.0.now)
  pub session_keep_burst_room : (κs : _) (a : _) (one other : _) (s t : _) → session-keep-burst.Post κs a one s → session-keep-burst.Post κs a other t → (session : Session) → Ruled (held session a.0.now a.1.0.now) → s.0.now ≡ t.0.now
  pub session_keep_burst_window : (κs : _) (a : _) (one other : _) (s t : _) → session-keep-burst.Post κs a one s → session-keep-burst.Post κs a other t → (session : Session) → Ruled (held session a.0.now a.1.0.now) → s.1.0.now ≡ t.1.0.now
  pub session_apply_once : Once session-apply.Post
  pub session_apply_room : Fixes session-apply.Post (λ κs r s. s.1.0.now)
  pub session_apply_window : Fixes session-apply.Post (λ κs r s. s.1.1.0.now)
  pub session_lowest_once : Once session_lowest.Post
  pub session_next_once : Once session-next.Post
  pub session_end_once : Once session-end.Post
  pub session_code_once : Once session-code.Post
  pub session_faults_once : Once session-faults.Post
  pub session_doubtful_once : Once session-doubtful.Post
  pub session_rule_once : Once session-rule.Post
  pub session_unlisted_once : Once session-unlisted.Post
  pub session_order_once : Once session-order.Post
  pub session_best_once : Once session-best.Post
  pub session_inside_once : Once session-inside.Post
  pub session_gap_once : Once session-gap.Post
  pub session_requests_once : Once session-requests.Post
  pub session_requests_memory : Fixes session-requests.Post (λ κs r s. s.1.1.0.now)

pub sessions : Sessions
sessions =
    record {
      session_open_once = named (λ κs a r s p. session_of p.0);
      session_open_room = named (λ κs a r s p. room_of p.0);
      session_open_window = named (λ κs a r s p. window_of_lem p.0);
      session_take_once = λ κs a one other s t p q. λ i. record { session = session_of (once p.0 q.0) i; answer = once p.1.0 q.1.0 i };
      session_take_room = named (λ κs a r s p. room_of p.0);
      session_take_window = named (λ κs a r s p. window_of_lem p.0);
      session_burst_once = λ κs a one other s t p q. λ i. record { session = session_of (once p.0 q.0) i; count = once p.1.0 q.1.0 i; bytes = once p.1.1.0 q.1.1.0 i };
      session_burst_room = named (λ κs a r s p. room_of p.0);
      session_burst_window = named (λ κs a r s p. window_of_lem p.0);
      session_burst_answers = named (λ κs a r s p. p.1.1.1.0);
      session_pass_once = named (λ κs a r s p. p.0);
      session_pass_room = λ κs a one other s t p q session rule. room_of (once (p.1.0 session rule) (q.1.0 session rule));
      session_pass_window = λ κs a one other s t p q session rule. window_of_lem (once (p.1.0 session rule) (q.1.0 session rule));
      session_keep_once = named (λ κs a r s p. p.0);
      session_keep_room = λ κs a one other s t p q session rule. room_of (once (p.1.0 session rule) (q.1.0 session rule));
      session_keep_window = λ κs a one other s t p q session rule. window_of_lem (once (p.1.0 session rule) (q.1.0 session rule));
      session_keep_burst_once = λ κs a one other s t p q. λ i. record { count = once p.0 q.0 i; bytes = once p.1.0 q.1.0 i };
      session_keep_burst_answers = named (λ κs a r s p. p.1.1.0);
      session_keep_burst_room = λ κs a one other s t p q session rule. room_of (once (p.1.1.1.0 session rule) (q.1.1.1.0 session rule));
      session_keep_burst_window = λ κs a one other s t p q session rule. window_of_lem (once (p.1.1.1.0 session rule) (q.1.1.1.0 session rule));
      session_apply_once = λ κs a one other s t p q. λ i. record { session = session_of (once p.0 q.0) i; count = once p.1.0 q.1.0 i };
      session_apply_room = named (λ κs a r s p. room_of p.0);
      session_apply_window = named (λ κs a r s p. window_of_lem p.0);
      session_lowest_once = named (λ κs a r s p. p);
      session_next_once = named (λ κs a r s p. p);
      session_end_once = named (λ κs a r s p. p);
      session_code_once = named (λ κs a r s p. p);
      session_faults_once = named (λ κs a r s p. p);
      session_doubtful_once = named (λ κs a r s p. p);
      session_rule_once = named (λ κs a r s p. p);
      session_unlisted_once = named (λ κs a r s p. p);
      session_order_once = named (λ κs a r s p. p);
      session_best_once = named (λ κs a r s p. p);
      session_inside_once = named (λ κs a r s p. p);
      session_gap_once = named (λ κs a r s p. p);
      session_requests_once = named (λ κs a r s p. p.0);
      session_requests_memory = named (λ κs a r s p. p.1);
    }

-- ---- exports, the answer of each and all that it is lent to write

pub record Exports : Type 0 where
  pub exports_value_once : Once exports-value.Post
  pub exports_value_told : Fixes exports-value.Post (λ κs r s. s.1.0.now)
  pub exports_header_once : Once exports-header.Post
  pub exports_header_told : Fixes exports-header.Post (λ κs r s. s.1.0.now)
  pub exports_write_header_once : Once exports-write-header.Post
  pub exports_write_header_buffer : Fixes exports-write-header.Post (λ κs r s. s.1.1.1.1.1.0.now)
  pub exports_judge_once : Once exports-judge.Post
  pub exports_judge_told : Fixes exports-judge.Post (λ κs r s. s.1.0.now)
  pub exports_walk_once : Once exports-walk.Post
  pub exports_walk_places : Fixes exports-walk.Post (λ κs r s. s.1.0.now)
  pub exports_walk_told : Fixes exports-walk.Post (λ κs r s. s.1.1.0.now)
  pub exports_message_once : Once exports-message.Post
  pub exports_message_told : Fixes exports-message.Post (λ κs r s. s.1.0.now)
  pub exports_write_message_once : Once exports-write-message.Post
  pub exports_write_message_buffer : Fixes exports-write-message.Post (λ κs r s. s.1.0.now)
  pub exports_write_message_told : Fixes exports-write-message.Post (λ κs r s. s.1.1.1.0.now)
  pub exports_sizes_told : Fixes exports-sizes.Post (λ κs r s. s.0.now)
  pub exports_numbers_told : Fixes exports-numbers.Post (λ κs r s. s.1.0.now)
  pub exports_inside_once : Once exports-inside.Post
  pub exports_inside_told : Fixes exports-inside.Post (λ κs r s. s.1.1.0.now)
  pub exports_requests_once : Once exports-requests.Post
  pub exports_requests_buffer : Fixes exports-requests.Post (λ κs r s. s.1.1.0.now)
  pub exports_requests_told : Fixes exports-requests.Post (λ κs r s. s.1.1.1.0.now)
  pub exports_gap_told : Fixes exports-gap.Post (λ κs r s. s.1.1.1.0.now)
  pub exports_pass_told : Fixes exports-pass.Post (λ κs r s. s.1.1.1.0.now)
  pub exports_pass_room : (κs : _) (a : _) (one other : _) (s t : _) → exports-pass.Post κs a one s → exports-pass.Post κs a other t → (session : Session) → Ruled (held session a.0.now a.1.0.now) → s.0.now ≡ t.0.now
  pub exports_pass_window : (κs : _) (a : _) (one other : _) (s t : _) → exports-pass.Post κs a one s → exports-pass.Post κs a other t → (session : Session) → Ruled (held session a.0.now a.1.0.now) → s.1.0.now ≡ t.1.0.now
  pub exports_keep_once : Once exports-keep.Post
  pub exports_keep_told : Fixes exports-keep.Post (λ κs r s. s.1.1.1.0.now)
  pub exports_keep_room : (κs : _) (a : _) (one other : _) (s t : _) → exports-keep.Post κs a one s → exports-keep.Post κs a other t → (session : Session) → Ruled (held session a.0.now a.1.0.now) → s.0.now ≡ t.0.now
  pub exports_keep_window : (κs : _) (a : _) (one other : _) (s t : _) → exports-keep.Post κs a one s → exports-keep.Post κs a other t → (session : Session) → Ruled (held session a.0.now a.1.0.now) → s.1.0.now ≡ t.1.0.now
  pub exports_keep_packets_answers : Fixes exports-keep-packets.Post (λ κs r s. s.1.1.1.1.0.now)
  pub exports_keep_packets_told : Fixes exports-keep-packets.Post (λ κs r s. s.1.1.1.1.1.0.now)
  pub exports_keep_packets_room : (κs : _) (a : _) (one other : _) (s t : _) → exports-keep-packets.Post κs a one s → exports-keep-packets.Post κs a other t → (session : Session) → Ruled (held session a.0.now a.1.0.now) → s.0.now ≡ t.0.now
  pub exports_keep_packets_window : (κs : _) (a : _) (one other : _) (s t : _) → exports-keep-packets.Post κs a one s → exports-keep-packets.Post κs a other t → (session : Session) → Ruled (held session a.0.now a.1.0.now) → s.1.0.now ≡ t.1.0.now
  pub exports_lowest_once : Once exports-lowest.Post
  pub exports_rule_once : Once exports-rule.Post
  pub exports_unlisted_once : Once exports-unlisted.Post

pub exports : Exports
exports =
    record {
      exports_value_once = named (λ κs a r s p. p.0);
      exports_value_told = named (λ κs a r s p. p.1);
      exports_header_once = named (λ κs a r s p. p.0);
      exports_header_told = named (λ κs a r s p. p.1);
      exports_write_header_once = named (λ κs a r s p. p.0);
      exports_write_header_buffer = named (λ κs a r s p. p.1);
      exports_judge_once = named (λ κs a r s p. p.0);
      exports_judge_told = named (λ κs a r s p. p.1);
      exports_walk_once = named (λ κs a r s p. p.0);
      exports_walk_places = named (λ κs a r s p. p.1.0);
      exports_walk_told = named (λ κs a r s p. p.1.1);
      exports_message_once = named (λ κs a r s p. p.0);
      exports_message_told = named (λ κs a r s p. p.1);
      exports_write_message_once = named (λ κs a r s p. p.0);
      exports_write_message_buffer = named (λ κs a r s p. p.1.0);
      exports_write_message_told = named (λ κs a r s p. p.1.1);
      exports_sizes_told = named (λ κs a r s p. p);
      exports_numbers_told = named (λ κs a r s p. p);
      exports_inside_once = named (λ κs a r s p. p.0);
      exports_inside_told = named (λ κs a r s p. p.1);
      exports_requests_once = named (λ κs a r s p. p.0);
      exports_requests_buffer = named (λ κs a r s p. p.1.0);
      exports_requests_told = named (λ κs a r s p. p.1.1);
      exports_gap_told = named (λ κs a r s p. p);
      exports_pass_told = named (λ κs a r s p. p.0);
      exports_pass_room = λ κs a one other s t p q session rule. room_of (once (p.1.0 session rule) (q.1.0 session rule));
      exports_pass_window = λ κs a one other s t p q session rule. window_of_lem (once (p.1.0 session rule) (q.1.0 session rule));
      exports_keep_once = named (λ κs a r s p. p.0);
      exports_keep_told = named (λ κs a r s p. p.1.0);
      exports_keep_room = λ κs a one other s t p q session rule. room_of (once (p.1.1.0 session rule) (q.1.1.0 session rule));
      exports_keep_window = λ κs a one other s t p q session rule. window_of_lem (once (p.1.1.0 session rule) (q.1.1.0 session rule));
      exports_keep_packets_answers = named (λ κs a r s p. p.0);
      exports_keep_packets_told = named (λ κs a r s p. p.1.0);
      exports_keep_packets_room = λ κs a one other s t p q session rule. room_of (once (p.1.1.0 session rule) (q.1.1.0 session rule));
      exports_keep_packets_window = λ κs a one other s t p q session rule. window_of_lem (once (p.1.1.0 session rule) (q.1.1.0 session rule));
      exports_lowest_once = named (λ κs a r s p. p);
      exports_rule_once = named (λ κs a r s p. p);
      exports_unlisted_once = named (λ κs a r s p. p);
    }

-- the six that are lent the orders, each clause by itself, as the reader's are

abbrev order_refusal : (κs : _) (session : _) (room : _) (id : _) (told : _) (session' : _) (room' : _) (id' : _) (told' : _) (r : _) → Told (λ w. exports-order.ensures-refusal w.𝓛 κs w.𝓜.mem w.𝓡.run session room id told session' room' id' told' r)
order_refusal κs session room id told session' room' id' told' r = all_models _ (λ w. r_last _) (λ w. refl) (λ w. refl) (λ w. refl)

abbrev order_told : (κs : _) (session : _) (room : _) (id : _) (told : _) (session' : _) (room' : _) (id' : _) (told' : _) (r : _) → Told (λ w. exports-order.ensures-told w.𝓛 κs w.𝓜.mem w.𝓡.run session room id told session' room' id' told' r)
order_told κs session room id told session' room' id' told' r = all_models _ (λ w. r_last _) (λ w. refl) (λ w. refl) (λ w. refl)

abbrev quotes_refusal : (κs : _) (session : _) (room : _) (asked : _) (replies : _) (session' : _) (room' : _) (asked' : _) (replies' : _) (r : _) → Told (λ w. exports-quotes.ensures-refusal w.𝓛 κs w.𝓜.mem w.𝓡.run session room asked replies session' room' asked' replies' r)
quotes_refusal κs session room asked replies session' room' asked' replies' r = all_models _ (λ w. r_last _) (λ w. refl) (λ w. refl) (λ w. refl)

abbrev quotes_replies : (κs : _) (session : _) (room : _) (asked : _) (replies : _) (session' : _) (room' : _) (asked' : _) (replies' : _) (r : _) → Told (λ w. exports-quotes.ensures-replies w.𝓛 κs w.𝓜.mem w.𝓡.run session room asked replies session' room' asked' replies' r)
quotes_replies κs session room asked replies session' room' asked' replies' r = all_models _ (λ w. r_last _) (λ w. refl) (λ w. refl) (λ w. refl)

abbrev open_held : (κs : _) (session : _) (room : _) (window : _) (number : _) (session' : _) (room' : _) (window' : _) (number' : _) (r : _) → Told (λ w. exports-open.ensures-opened w.𝓛 κs w.𝓜.mem w.𝓡.run session room window number session' room' window' number' r)
open_held κs session room window number session' room' window' number' r = all_models _ (λ w. r_last _) (λ w. refl) (λ w. refl) (λ w. refl)

abbrev open_strict_held : (κs : _) (session : _) (room : _) (window : _) (number : _) (session' : _) (room' : _) (window' : _) (number' : _) (r : _) → Told (λ w. exports-open-strict.ensures-opened w.𝓛 κs w.𝓜.mem w.𝓡.run session room window number session' room' window' number' r)
open_strict_held κs session room window number session' room' window' number' r = all_models _ (λ w. r_last _) (λ w. refl) (λ w. refl) (λ w. refl)

abbrev packets_held : (κs : _) (session : _) (room : _) (window : _) (packets : _) (single : _) (count : _) (answers : _) (told : _) (session' : _) (room' : _) (window' : _) (packets' : _) (single' : _) (count' : _) (answers' : _) (told' : _) (r : _) → Told (λ w. exports-packets.ensures-taken w.𝓛 κs w.𝓜.mem w.𝓡.run session room window packets single count answers told session' room' window' packets' single' count' answers' told' r)
packets_held κs session room window packets single count answers told session' room' window' packets' single' count' answers' told' r = all_models _ (λ w. r_last _) (λ w. refl) (λ w. refl) (λ w. refl)

abbrev packets_answers : (κs : _) (session : _) (room : _) (window : _) (packets : _) (single : _) (count : _) (answers : _) (told : _) (session' : _) (room' : _) (window' : _) (packets' : _) (single' : _) (count' : _) (answers' : _) (told' : _) (r : _) → Told (λ w. exports-packets.ensures-answers w.𝓛 κs w.𝓜.mem w.𝓡.run session room window packets single count answers told session' room' window' packets' single' count' answers' told' r)
packets_answers κs session room window packets single count answers told session' room' window' packets' single' count' answers' told' r = all_models _ (λ w. r_last _) (λ w. refl) (λ w. refl) (λ w. refl)

abbrev packets_told : (κs : _) (session : _) (room : _) (window : _) (packets : _) (single : _) (count : _) (answers : _) (told : _) (session' : _) (room' : _) (window' : _) (packets' : _) (single' : _) (count' : _) (answers' : _) (told' : _) (r : _) → Told (λ w. exports-packets.ensures-told w.𝓛 κs w.𝓜.mem w.𝓡.run session room window packets single count answers told session' room' window' packets' single' count' answers' told' r)
packets_told κs session room window packets single count answers told session' room' window' packets' single' count' answers' told' r = all_models _ (λ w. r_last _) (λ w. refl) (λ w. refl) (λ w. refl)

abbrev apply_held : (κs : _) (session : _) (room : _) (window : _) (count : _) (session' : _) (room' : _) (window' : _) (count' : _) (r : _) → Told (λ w. exports-apply.ensures-applied w.𝓛 κs w.𝓜.mem w.𝓡.run session room window count session' room' window' count' r)
apply_held κs session room window count session' room' window' count' r = all_models _ (λ w. r_last _) (λ w. refl) (λ w. refl) (λ w. refl)

abbrev apply_count : (κs : _) (session : _) (room : _) (window : _) (count : _) (session' : _) (room' : _) (window' : _) (count' : _) (r : _) → Told (λ w. exports-apply.ensures-count w.𝓛 κs w.𝓜.mem w.𝓡.run session room window count session' room' window' count' r)
apply_count κs session room window count session' room' window' count' r = all_models _ (λ w. r_last _) (λ w. refl) (λ w. refl) (λ w. refl)

pub exports_apply_once : (κs : _) (session : _) (room : _) (window : _) (count : _) (session' : _) (room' : _) (window' : _) (count' : _) (one other : _) → AllOf (apply_count κs session room window count session' room' window' count' one).tells → AllOf (apply_count κs session room window count session' room' window' count' other).tells → one ≡ other
exports_apply_once κs session room window count session' room' window' count' one other = once

pub exports_order_once : (κs : _) (session : _) (room : _) (id : _) (told : _) (session' : _) (room' : _) (id' : _) (told' : _) (one other : _) → AllOf (order_refusal κs session room id told session' room' id' told' one).tells → AllOf (order_refusal κs session room id told session' room' id' told' other).tells → one ≡ other
exports_order_once κs session room id told session' room' id' told' one other = once

pub exports_quotes_once : (κs : _) (session : _) (room : _) (asked : _) (replies : _) (session' : _) (room' : _) (asked' : _) (replies' : _) (one other : _) → AllOf (quotes_refusal κs session room asked replies session' room' asked' replies' one).tells → AllOf (quotes_refusal κs session room asked replies session' room' asked' replies' other).tells → one ≡ other
exports_quotes_once κs session room asked replies session' room' asked' replies' one other = once

pub exports_order_told : (κs : _) (session : _) (room : _) (id : _) (told : _) (session' : _) (room' : _) (id' : _) (one other : _) (r q : _) → AllOf (order_told κs session room id told session' room' id' (record { entry = told; exit = one }) r).tells → AllOf (order_told κs session room id told session' room' id' (record { entry = told; exit = other }) q).tells → one.now ≡ other.now
exports_order_told κs session room id told session' room' id' one other r q = once

pub exports_quotes_replies : (κs : _) (session : _) (room : _) (asked : _) (replies : _) (session' : _) (room' : _) (asked' : _) (one other : _) (r q : _) → AllOf (quotes_replies κs session room asked replies session' room' asked' (record { entry = replies; exit = one }) r).tells → AllOf (quotes_replies κs session room asked replies session' room' asked' (record { entry = replies; exit = other }) q).tells → one.now ≡ other.now
exports_quotes_replies κs session room asked replies session' room' asked' one other r q = once

pub exports_packets_answers : (κs : _) (session : _) (room : _) (window : _) (packets : _) (single : _) (count : _) (answers : _) (told : _) (session' : _) (room' : _) (window' : _) (packets' : _) (single' : _) (count' : _) (told' : _) (one other : _) (r q : _) → AllOf (packets_answers κs session room window packets single count answers told session' room' window' packets' single' count' (record { entry = answers; exit = one }) told' r).tells → AllOf (packets_answers κs session room window packets single count answers told session' room' window' packets' single' count' (record { entry = answers; exit = other }) told' q).tells → one.now ≡ other.now
exports_packets_answers κs session room window packets single count answers told session' room' window' packets' single' count' told' one other r q = once

pub exports_packets_told : (κs : _) (session : _) (room : _) (window : _) (packets : _) (single : _) (count : _) (answers : _) (told : _) (session' : _) (room' : _) (window' : _) (packets' : _) (single' : _) (count' : _) (answers' : _) (one other : _) (r q : _) → AllOf (packets_told κs session room window packets single count answers told session' room' window' packets' single' count' answers' (record { entry = told; exit = one }) r).tells → AllOf (packets_told κs session room window packets single count answers told session' room' window' packets' single' count' answers' (record { entry = told; exit = other }) q).tells → one.now ≡ other.now
exports_packets_told κs session room window packets single count answers told session' room' window' packets' single' count' answers' one other r q = once

pub exports_open_session : (κs : _) (session : _) (room : _) (window : _) (number : _) (number' : _) (session₁ : _) (room₁ : _) (window₁ : _) (session₂ : _) (room₂ : _) (window₂ : _) (r q : _) → AllOf (open_held κs session room window number (record { entry = session; exit = session₁ }) (record { entry = room; exit = room₁ }) (record { entry = window; exit = window₁ }) number' r).tells → AllOf (open_held κs session room window number (record { entry = session; exit = session₂ }) (record { entry = room; exit = room₂ }) (record { entry = window; exit = window₂ }) number' q).tells → session₁.now ≡ session₂.now
exports_open_session κs session room window number number' session₁ room₁ window₁ session₂ room₂ window₂ r q one other = session_of (once one other)

pub exports_open_room : (κs : _) (session : _) (room : _) (window : _) (number : _) (number' : _) (session₁ : _) (room₁ : _) (window₁ : _) (session₂ : _) (room₂ : _) (window₂ : _) (r q : _) → AllOf (open_held κs session room window number (record { entry = session; exit = session₁ }) (record { entry = room; exit = room₁ }) (record { entry = window; exit = window₁ }) number' r).tells → AllOf (open_held κs session room window number (record { entry = session; exit = session₂ }) (record { entry = room; exit = room₂ }) (record { entry = window; exit = window₂ }) number' q).tells → room₁.now ≡ room₂.now
exports_open_room κs session room window number number' session₁ room₁ window₁ session₂ room₂ window₂ r q one other = room_of (once one other)

pub exports_open_window : (κs : _) (session : _) (room : _) (window : _) (number : _) (number' : _) (session₁ : _) (room₁ : _) (window₁ : _) (session₂ : _) (room₂ : _) (window₂ : _) (r q : _) → AllOf (open_held κs session room window number (record { entry = session; exit = session₁ }) (record { entry = room; exit = room₁ }) (record { entry = window; exit = window₁ }) number' r).tells → AllOf (open_held κs session room window number (record { entry = session; exit = session₂ }) (record { entry = room; exit = room₂ }) (record { entry = window; exit = window₂ }) number' q).tells → window₁.now ≡ window₂.now
exports_open_window κs session room window number number' session₁ room₁ window₁ session₂ room₂ window₂ r q one other = window_of_lem (once one other)

pub exports_open_strict_session : (κs : _) (session : _) (room : _) (window : _) (number : _) (number' : _) (session₁ : _) (room₁ : _) (window₁ : _) (session₂ : _) (room₂ : _) (window₂ : _) (r q : _) → AllOf (open_strict_held κs session room window number (record { entry = session; exit = session₁ }) (record { entry = room; exit = room₁ }) (record { entry = window; exit = window₁ }) number' r).tells → AllOf (open_strict_held κs session room window number (record { entry = session; exit = session₂ }) (record { entry = room; exit = room₂ }) (record { entry = window; exit = window₂ }) number' q).tells → session₁.now ≡ session₂.now
exports_open_strict_session κs session room window number number' session₁ room₁ window₁ session₂ room₂ window₂ r q one other = session_of (once one other)

pub exports_open_strict_room : (κs : _) (session : _) (room : _) (window : _) (number : _) (number' : _) (session₁ : _) (room₁ : _) (window₁ : _) (session₂ : _) (room₂ : _) (window₂ : _) (r q : _) → AllOf (open_strict_held κs session room window number (record { entry = session; exit = session₁ }) (record { entry = room; exit = room₁ }) (record { entry = window; exit = window₁ }) number' r).tells → AllOf (open_strict_held κs session room window number (record { entry = session; exit = session₂ }) (record { entry = room; exit = room₂ }) (record { entry = window; exit = window₂ }) number' q).tells → room₁.now ≡ room₂.now
exports_open_strict_room κs session room window number number' session₁ room₁ window₁ session₂ room₂ window₂ r q one other = room_of (once one other)

pub exports_open_strict_window : (κs : _) (session : _) (room : _) (window : _) (number : _) (number' : _) (session₁ : _) (room₁ : _) (window₁ : _) (session₂ : _) (room₂ : _) (window₂ : _) (r q : _) → AllOf (open_strict_held κs session room window number (record { entry = session; exit = session₁ }) (record { entry = room; exit = room₁ }) (record { entry = window; exit = window₁ }) number' r).tells → AllOf (open_strict_held κs session room window number (record { entry = session; exit = session₂ }) (record { entry = room; exit = room₂ }) (record { entry = window; exit = window₂ }) number' q).tells → window₁.now ≡ window₂.now
exports_open_strict_window κs session room window number number' session₁ room₁ window₁ session₂ room₂ window₂ r q one other = window_of_lem (once one other)

pub exports_packets_session : (κs : _) (session : _) (room : _) (window : _) (packets : _) (single : _) (count : _) (answers : _) (told : _) (packets' : _) (single' : _) (count' : _) (answers' : _) (told' : _) (session₁ : _) (room₁ : _) (window₁ : _) (session₂ : _) (room₂ : _) (window₂ : _) (r q : _) → AllOf (packets_held κs session room window packets single count answers told (record { entry = session; exit = session₁ }) (record { entry = room; exit = room₁ }) (record { entry = window; exit = window₁ }) packets' single' count' answers' told' r).tells → AllOf (packets_held κs session room window packets single count answers told (record { entry = session; exit = session₂ }) (record { entry = room; exit = room₂ }) (record { entry = window; exit = window₂ }) packets' single' count' answers' told' q).tells → session₁.now ≡ session₂.now
exports_packets_session κs session room window packets single count answers told packets' single' count' answers' told' session₁ room₁ window₁ session₂ room₂ window₂ r q one other = session_of (once one other)

pub exports_packets_room : (κs : _) (session : _) (room : _) (window : _) (packets : _) (single : _) (count : _) (answers : _) (told : _) (packets' : _) (single' : _) (count' : _) (answers' : _) (told' : _) (session₁ : _) (room₁ : _) (window₁ : _) (session₂ : _) (room₂ : _) (window₂ : _) (r q : _) → AllOf (packets_held κs session room window packets single count answers told (record { entry = session; exit = session₁ }) (record { entry = room; exit = room₁ }) (record { entry = window; exit = window₁ }) packets' single' count' answers' told' r).tells → AllOf (packets_held κs session room window packets single count answers told (record { entry = session; exit = session₂ }) (record { entry = room; exit = room₂ }) (record { entry = window; exit = window₂ }) packets' single' count' answers' told' q).tells → room₁.now ≡ room₂.now
exports_packets_room κs session room window packets single count answers told packets' single' count' answers' told' session₁ room₁ window₁ session₂ room₂ window₂ r q one other = room_of (once one other)

pub exports_packets_window : (κs : _) (session : _) (room : _) (window : _) (packets : _) (single : _) (count : _) (answers : _) (told : _) (packets' : _) (single' : _) (count' : _) (answers' : _) (told' : _) (session₁ : _) (room₁ : _) (window₁ : _) (session₂ : _) (room₂ : _) (window₂ : _) (r q : _) → AllOf (packets_held κs session room window packets single count answers told (record { entry = session; exit = session₁ }) (record { entry = room; exit = room₁ }) (record { entry = window; exit = window₁ }) packets' single' count' answers' told' r).tells → AllOf (packets_held κs session room window packets single count answers told (record { entry = session; exit = session₂ }) (record { entry = room; exit = room₂ }) (record { entry = window; exit = window₂ }) packets' single' count' answers' told' q).tells → window₁.now ≡ window₂.now
exports_packets_window κs session room window packets single count answers told packets' single' count' answers' told' session₁ room₁ window₁ session₂ room₂ window₂ r q one other = window_of_lem (once one other)

pub exports_apply_session : (κs : _) (session : _) (room : _) (window : _) (count : _) (count' : _) (session₁ : _) (room₁ : _) (window₁ : _) (session₂ : _) (room₂ : _) (window₂ : _) (r q : _) → AllOf (apply_held κs session room window count (record { entry = session; exit = session₁ }) (record { entry = room; exit = room₁ }) (record { entry = window; exit = window₁ }) count' r).tells → AllOf (apply_held κs session room window count (record { entry = session; exit = session₂ }) (record { entry = room; exit = room₂ }) (record { entry = window; exit = window₂ }) count' q).tells → session₁.now ≡ session₂.now
exports_apply_session κs session room window count count' session₁ room₁ window₁ session₂ room₂ window₂ r q one other = session_of (once one other)

pub exports_apply_room : (κs : _) (session : _) (room : _) (window : _) (count : _) (count' : _) (session₁ : _) (room₁ : _) (window₁ : _) (session₂ : _) (room₂ : _) (window₂ : _) (r q : _) → AllOf (apply_held κs session room window count (record { entry = session; exit = session₁ }) (record { entry = room; exit = room₁ }) (record { entry = window; exit = window₁ }) count' r).tells → AllOf (apply_held κs session room window count (record { entry = session; exit = session₂ }) (record { entry = room; exit = room₂ }) (record { entry = window; exit = window₂ }) count' q).tells → room₁.now ≡ room₂.now
exports_apply_room κs session room window count count' session₁ room₁ window₁ session₂ room₂ window₂ r q one other = room_of (once one other)

pub exports_apply_window : (κs : _) (session : _) (room : _) (window : _) (count : _) (count' : _) (session₁ : _) (room₁ : _) (window₁ : _) (session₂ : _) (room₂ : _) (window₂ : _) (r q : _) → AllOf (apply_held κs session room window count (record { entry = session; exit = session₁ }) (record { entry = room; exit = room₁ }) (record { entry = window; exit = window₁ }) count' r).tells → AllOf (apply_held κs session room window count (record { entry = session; exit = session₂ }) (record { entry = room; exit = room₂ }) (record { entry = window; exit = window₂ }) count' q).tells → window₁.now ≡ window₂.now
exports_apply_window κs session room window count count' session₁ room₁ window₁ session₂ room₂ window₂ r q one other = window_of_lem (once one other)
