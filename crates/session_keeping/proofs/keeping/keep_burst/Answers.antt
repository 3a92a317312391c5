-- The packets of a burst kept, by their count, and end written.
-- Assumes nothing.
use mathlib.Core.Path.{refl}
use mathlib.Core.Bool.{false}
use native.Mathlib.Omega.{arith}
use Rattle.wire.specs.Number.{Bytes}
use Rattle.window_taking.proofs.Passing.{bytes_of}
use Rattle.window_taking.specs.Turns.{packets_in}
use Rattle.session.specs.Asking.{line_in}
use Rattle.session.specs.Meaning.{held, view}
use Rattle.session.proofs.Calls.{burst_runs, bytes_are, count-is, packets_bytes}
use Rattle.session_keeping.proofs.Keeps.{all_held, all_ruled, burst_kept_lem, known_here, neat_here, rows_kept}
use Rattle.session_keeping.proofs.keeping.keep_burst.Goals as goal

pub keep_packets-kept-requires : goal.keep_packets-kept-requires
keep_packets-kept-requires c =
    let some = c.requires in
    let x = view (held some.0 c.args.room.now c.args.window.now) in
    let packets = c.args.packets.now in
    let answers = c.args.answers.now in
    let most = c.args.count in
    record { neat = neat_here some.1; known = known_here some.1; count_in_bounds = (burst_runs x packets answers most refl c.due_of-due.ensures (omega arith)).room }

pub returns : goal.returns
returns c =
    let some = c.requires in
    let room = c.args.room.now in
    let window = c.args.window.now in
    let packets = c.args.packets.now in
    let answers = c.args.answers.now in
    let most = c.args.count in
    let due = c.due_of-due.result in
    let dues = c.due_of-due.ensures in
    let kept = c.keep_packets-kept.ensures in
    let x = view (held some.0 room window) in
    let list = packets_in due packets in
    let bytes : Bytes packets = bytes_of packets (λ i. omega (arith, c.type_inv.packets i)) in
    record {
      count = count-is x packets answers most refl dues kept.taken c.count_of.ensures;
      bytes = bytes_are x packets answers most refl dues kept.at;
      answers = rows_kept x packets answers most refl dues (line_in room window) kept.answers;
      held = λ s rule. burst_kept_lem (view (held s room window)) packets answers most refl dues (all_held rule list kept.end kept.kept);
      rule = λ s rule. all_ruled rule list kept.end kept.kept (packets_bytes false due 0 packets bytes);
    }
