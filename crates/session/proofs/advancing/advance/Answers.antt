-- The engine until a message touches an order: each turn of the loop is one step of the definition.
-- Assumes nothing.
use mathlib.Core.List.{List}
use mathlib.Core.Path.{◌≡◌, refl, ap, ◌∙◌, sym, subst}
use Prim.Native.Nat.{ℕ, ◌+◌, ◌%◌, ◌<◌}
use native.Mathlib.Nat.{mod-lt}
use native.Mathlib.Omega.{arith}
use Rattle.window_taking.specs.declared.burst.Turn.{Turn}
use Rattle.session_message.specs.AtNext.{onward_of, size_in}
use Rattle.session_message.specs.declared.PacketRest.{PacketRest}
use Rattle.window.proofs.Sizes.{none_told, some_there, some_told}
use Rattle.window_taking.proofs.Passing.{bytes_of}
use Rattle.session.specs.Engine.{turns_left}
use Rattle.session.proofs.Engine.{came_over, came_waits, from_between}
use Rattle.session.proofs.Runs.{begins, closes, ends, follows, follows_few, goes, here, holds, houses_read, known, less_turn, more, passes_so, same_length, tabled, waits_so}
use Rattle.session.proofs.advancing.advance.Goals as goal
use Rattle.session.proofs.advancing.advance.Goals.{After-follow-turn}

-- the size of the message at next, 0 where there is none
abbrev waits : List ℕ → List ℕ → PacketRest → ℕ → ℕ
waits w s rest next = size_in w s rest (next % 256)

-- ---- nothing waits

less : (c : After-follow-turn) → turns_left c.follow-turn.result c.loop-size.next (record { left = c.follow-turn.result.direct; from = c.follow-turn.result.from }) < turns_left c.loop-size.turn c.loop-size.next c.loop-size.rest
less c =
    let o = (c.loop-size.invariant.all _ _ (from_between c.requires.2)).now in
    let told = (none_told (waits c.loop-size.window c.args.packets.now c.loop-size.rest c.loop-size.next) c.in_default.ensures) in
    let free : ◌≡◌ {A = ℕ} 0 0 = refl in
    let put = c.close.ensures in
    let other = sym c.done.ensures ∙ c.if-done.false in
    less_turn c.loop-size.turn c.follow-turn.result c.loop-size.next c.loop-size.rest (record { left = c.follow-turn.result.direct; from = c.follow-turn.result.from }) (ap (λ (t : Turn). t.left) c.follow-turn.ensures.turn)
    (follows_few o told free put other (bytes_of c.args.packets.now (λ i. omega (arith, c.type_inv.packets i))) c.follow-turn.ensures.turn c.follow-turn.ensures.kept)
    (more o told free put other).left

pub loop-size-init : goal.loop-size-init
loop-size-init c = record { all = λ t os g. g; few = omega arith }

pub size-requires : goal.size-requires
size-requires c =
    let o = (c.loop-size.invariant.all _ _ (from_between c.requires.2)).now in
    record { place_bound = mod-lt c.loop-size.next {m = 256} (omega arith); begins = begins o }

pub close-requires : goal.close-requires
close-requires c = closes (c.loop-size.invariant.all _ _ (from_between c.requires.2)).now

pub done-requires : goal.done-requires
done-requires c = (c.loop-size.invariant.all _ _ (from_between c.requires.2)).now.within

pub shape_of-answers-then-done : goal.shape_of-answers-then-done
shape_of-answers-then-done c =
    let g = c.loop-size.invariant.all _ _ (from_between c.requires.2) in
    same_length g.now (none_told (waits c.loop-size.window c.args.packets.now c.loop-size.rest c.loop-size.next) c.in_default.ensures) refl c.close.ensures ∙ g.long ∙ sym c.requires.2.long

pub returns-then-done : goal.returns-then-done
returns-then-done c t os g =
    let is = c.loop-size.invariant.all t os (from_between g) in
    let told = (none_told (waits c.loop-size.window c.args.packets.now c.loop-size.rest c.loop-size.next) c.in_default.ensures) in
    let free : ◌≡◌ {A = ℕ} 0 0 = refl in
    let put = c.close.ensures in
    came_over c.between.ensures (ends is.now told free put (sym c.done.ensures ∙ c.if-done.true)) (same_length is.now told free put ∙ is.long)

pub follow-turn-requires : goal.follow-turn-requires
follow-turn-requires c =
    let o = (c.loop-size.invariant.all _ _ (from_between c.requires.2)).now in
    let told = (none_told (waits c.loop-size.window c.args.packets.now c.loop-size.rest c.loop-size.next) c.in_default.ensures) in
    let free : ◌≡◌ {A = ℕ} 0 0 = refl in
    record { neat = holds o told free; follows = more o told free c.close.ensures (sym c.done.ensures ∙ c.if-done.false); known = known o told free }

pub loop-size-preserved-in_default : goal.loop-size-preserved-in_default
loop-size-preserved-in_default c =
    record {
      all = λ t os g₀.
          let g = c.loop-size.invariant.all t os g₀ in
          let told = (none_told (waits c.loop-size.window c.args.packets.now c.loop-size.rest c.loop-size.next) c.in_default.ensures) in
          let free : ◌≡◌ {A = ℕ} 0 0 = refl in
          let put = c.close.ensures in
          record {
            now = follows g.now told free put (sym c.done.ensures ∙ c.if-done.false) (bytes_of c.args.packets.now (λ i. omega (arith, c.type_inv.packets i))) c.follow-turn.ensures.turn c.follow-turn.ensures.kept;
            wide = g.wide;
            long = same_length g.now told free put ∙ g.long;
          };
      few = omega (arith, less c, c.loop-size.invariant.few);
    }

pub loop-size-smaller-in_default : goal.loop-size-smaller-in_default
loop-size-smaller-in_default c = omega (arith, less c)

-- ---- a message waits

fewer : (turn : Turn) (next size : ℕ) (rest : PacketRest) {to : PacketRest} → to ≡ onward_of rest size
    → turns_left turn (next + 1) (onward_of rest size) < turns_left turn next rest → turns_left turn (next + 1) to < turns_left turn next rest
fewer turn next size rest is less = subst (λ (z : PacketRest). turns_left turn (next + 1) z < turns_left turn next rest) (sym is) less

pub fetch-requires : goal.fetch-requires
fetch-requires c = mod-lt c.loop-size.next {m = 256} (omega arith)

pub free-requires : goal.free-requires
free-requires c = mod-lt c.loop-size.next {m = 256} (omega arith)

pub onward-rest-requires : goal.onward-rest-requires
onward-rest-requires c =
    let g = c.loop-size.invariant.all _ _ (from_between c.requires.2) in
    goes g.now (some_told (waits c.loop-size.window c.args.packets.now c.loop-size.rest c.loop-size.next) c.in-Some.ensures) (some_there (waits c.loop-size.window c.args.packets.now c.loop-size.rest c.loop-size.next) c.in-Some.ensures) c.loop-size.text g.wide c.fetch.ensures (omega arith)

pub message-bytes-requires : goal.message-bytes-requires
message-bytes-requires c =
    let g = c.loop-size.invariant.all _ _ (from_between c.requires.2) in
    let at = here g.now (some_told (waits c.loop-size.window c.args.packets.now c.loop-size.rest c.loop-size.next) c.in-Some.ensures) (some_there (waits c.loop-size.window c.args.packets.now c.loop-size.rest c.loop-size.next) c.in-Some.ensures) c.loop-size.text g.wide c.fetch.ensures in
    record { size_in_bounds = at.cut; lies = at.lies }

pub apply-touched-requires : goal.apply-touched-requires
apply-touched-requires c =
    let t = c.requires.0 in
    let g = c.loop-size.invariant.all _ _ (from_between c.requires.2) in
    (t.next, t.end, tabled g.now, houses_read g.now (some_told (waits c.loop-size.window c.args.packets.now c.loop-size.rest c.loop-size.next) c.in-Some.ensures) (some_there (waits c.loop-size.window c.args.packets.now c.loop-size.rest c.loop-size.next) c.in-Some.ensures) c.loop-size.text g.wide c.fetch.ensures c.message-bytes.ensures)

pub overflow_add-next : goal.overflow_add-next
overflow_add-next c =
    let g = c.loop-size.invariant.all _ _ (from_between c.requires.2) in
    omega (arith, (here g.now (some_told (waits c.loop-size.window c.args.packets.now c.loop-size.rest c.loop-size.next) c.in-Some.ensures) (some_there (waits c.loop-size.window c.args.packets.now c.loop-size.rest c.loop-size.next) c.in-Some.ensures) c.loop-size.text g.wide c.fetch.ensures).below)

pub returns-in-Some-touched : goal.returns-in-Some-touched
returns-in-Some-touched c t os g₀ =
    let g = c.loop-size.invariant.all _ _ (from_between c.requires.2) in
    let on = fewer c.loop-size.turn c.loop-size.next c.in-Some.size c.loop-size.rest c.onward-rest.ensures (here g.now (some_told (waits c.loop-size.window c.args.packets.now c.loop-size.rest c.loop-size.next) c.in-Some.ensures) (some_there (waits c.loop-size.window c.args.packets.now c.loop-size.rest c.loop-size.next) c.in-Some.ensures) c.loop-size.text g.wide c.fetch.ensures).fewer in
    let is = c.loop-size.invariant.all t os (from_between g₀) in
    let told = (some_told (waits c.loop-size.window c.args.packets.now c.loop-size.rest c.loop-size.next) c.in-Some.ensures) in
    let some = (some_there (waits c.loop-size.window c.args.packets.now c.loop-size.rest c.loop-size.next) c.in-Some.ensures) in
    let housed = houses_read is.now told some c.loop-size.text is.wide c.fetch.ensures c.message-bytes.ensures in
    came_waits c.in-Some-touched.touch c.at_hand.ensures
    (waits_so is.now told some c.loop-size.text is.wide c.fetch.ensures c.message-bytes.ensures (c.apply-touched.ensures t.next t.end (tabled is.now) housed) c.free.ensures c.onward-rest.ensures is.long c.in-Some-touched.touch c.in-Some-touched.is)
    (omega (arith, on, c.loop-size.invariant.few))
    is.long

pub loop-size-preserved : goal.loop-size-preserved
loop-size-preserved c =
    let g = c.loop-size.invariant.all _ _ (from_between c.requires.2) in
    let on = fewer c.loop-size.turn c.loop-size.next c.in-Some.size c.loop-size.rest c.onward-rest.ensures (here g.now (some_told (waits c.loop-size.window c.args.packets.now c.loop-size.rest c.loop-size.next) c.in-Some.ensures) (some_there (waits c.loop-size.window c.args.packets.now c.loop-size.rest c.loop-size.next) c.in-Some.ensures) c.loop-size.text g.wide c.fetch.ensures).fewer in
    record {
      all = λ t os g₀.
          let is = c.loop-size.invariant.all t os g₀ in
          let told = (some_told (waits c.loop-size.window c.args.packets.now c.loop-size.rest c.loop-size.next) c.in-Some.ensures) in
          let some = (some_there (waits c.loop-size.window c.args.packets.now c.loop-size.rest c.loop-size.next) c.in-Some.ensures) in
          let housed = houses_read is.now told some c.loop-size.text is.wide c.fetch.ensures c.message-bytes.ensures in
          passes_so is.now told some c.loop-size.text is.wide c.fetch.ensures c.message-bytes.ensures (c.apply-touched.ensures t.next t.end (tabled is.now) housed) c.free.ensures c.onward-rest.ensures is.long c.in_default-touched.is;
      few = omega (arith, on, c.loop-size.invariant.few);
    }

pub loop-size-smaller : goal.loop-size-smaller
loop-size-smaller c =
    let g = c.loop-size.invariant.all _ _ (from_between c.requires.2) in
    fewer c.loop-size.turn c.loop-size.next c.in-Some.size c.loop-size.rest c.onward-rest.ensures (here g.now (some_told (waits c.loop-size.window c.args.packets.now c.loop-size.rest c.loop-size.next) c.in-Some.ensures) (some_there (waits c.loop-size.window c.args.packets.now c.loop-size.rest c.loop-size.next) c.in-Some.ensures) c.loop-size.text g.wide c.fetch.ensures).fewer
