-- P1 to P12 and the two rules, in one table, hold: the checker computes it.
-- Assumes nothing.
use mathlib.Core.Path.{◌≡◌, refl}
use mathlib.Core.Bool.{true}
use Rattle.book.specs.Applying.{apply_of, effect_of, faulted, inside_of, order_of, seen_of}
use Rattle.book.specs.Lookup.{key_at, key_from, pair_from, same_symbol, symbol_at}
use Rattle.fields.specs.Id.{digit_of, good_id, id_answer, is_digit, number_of, value_of}
use Rattle.fields.specs.Rules.{good_symbol}
use Rattle.fields.specs.Tests.{between, either, first_all}
use Rattle.book_index.specs.Changes.{without}
use Rattle.merge.specs.State.{apply_up_to, copy_of, freed_at, keep, kept_at, opened, step, take_all, take_if, take_one}
use Rattle.message.specs.Layouts.{layout_of}
use Rattle.message.specs.Reading.{read_of}
use Rattle.message.specs.Row.{fields_of, message_of}
use Rattle.message.specs.Rules.{broken_of, broken_or}
use Rattle.message.specs.Table.{payload_of}
use Rattle.packet.specs.Header.{flag_tests, header_tests}
use Rattle.packet.specs.Judging.{body_tests, packet_tests}
use Rattle.packet.specs.Walk.{broken_at, frames_from, walk_from}
use Rattle.session.specs.Asking.{gaps_of}
use Rattle.window_taking.specs.Taking.{differ_from, judge, packet_in, take_tests}
use Rattle.window.specs.Runs.{requests_of, runs_from}
use Rattle.window.specs.Window.{agreeing}
use Rattle.examples_proved.specs.Examples.{all, examples}

pub hold : all examples ≡ true
unfolding seen_of effect_of order_of inside_of without faulted apply_of key_from key_at same_symbol pair_from symbol_at is_digit digit_of good_id value_of number_of id_answer good_symbol between either first_all copy_of opened kept_at keep freed_at step apply_up_to take_if take_one take_all layout_of read_of message_of fields_of broken_of broken_or payload_of flag_tests header_tests body_tests packet_tests broken_at walk_from frames_from packet_in differ_from take_tests judge runs_from requests_of agreeing gaps_of
hold = refl
