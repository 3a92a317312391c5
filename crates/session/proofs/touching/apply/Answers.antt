-- One message by its type: what it touches.
-- Assumes nothing.
use mathlib.Core.Path.{◌≡◌}
use mathlib.Core.Bool.{true}
use mathlib.Core.Logic.{inl, inr}
use native.Mathlib.Omega.{arith}
use Rattle.message.specs.Layouts.{type_in}
use Rattle.book.specs.Applying.{names}
use Rattle.session.proofs.Dispatch.{naming_kind, of_kind, telling_kind}
use Rattle.session.proofs.Engine.{lying, told_add, touched_named, touched_none, touched_put}
use Rattle.session.proofs.touching.apply.Goals.{in_default-via-then-kind-lt21, in_default-via-else-kind-lt21+else-kind-lt26}
use Rattle.session.proofs.touching.apply.Goals as goal

pub add-requires : goal.add-requires
add-requires c = record { bytes_value = of_kind c.args.bytes.now c.number_at-kind.ensures c.in-21.is; by_index = c.requires }

pub named-name-requires : goal.named-name-requires
named-name-requires c =
    let room = c.requires in
    record {
      bytes_value = naming_kind c.args.bytes.now c.number_at-kind.ensures (omega arith) (omega arith) (omega arith);
      by_index = (room.0, room.1, room.2, lying room.3);
      whole = room.3.ready.whole;
    }

pub tell-requires : goal.tell-requires
tell-requires c =
    record {
      bytes_value =
          telling_kind c.args.bytes.now c.number_at-kind.ensures
          (elim c.in_default.branch [
            | in_default-via-then-kind-lt21 w ↦ inl (omega arith)
            | in_default-via-else-kind-lt21+else-kind-lt26 w ↦ inr (omega arith, omega arith)
          ]);
      by_index = c.requires;
    }

pub returns-in_err-placed-in-21 : goal.returns-in_err-placed-in-21
returns-in_err-placed-in-21 c next end b h = rw c.from_residual.ensures (touched_none (told_add (c.add.ensures next end b h) c.in_err-placed-in-21.was))

pub returns-in_ok-placed-in-21 : goal.returns-in_ok-placed-in-21
returns-in_ok-placed-in-21 c next end b h = touched_put (of_kind c.args.bytes.now c.number_at-kind.ensures c.in-21.is) (c.add.ensures next end b h) c.in_ok-placed-in-21.was

pub returns-in-22 : goal.returns-in-22
returns-in-22 c next end b h =
    let named : names (type_in c.args.bytes.now) ≡ true = naming_kind c.args.bytes.now c.number_at-kind.ensures (omega arith) (omega arith) (omega arith) in
    touched_named named (lying h) (c.named-name.ensures next end b (lying h)) c.unwrap_or-place.ensures

pub returns-in_default : goal.returns-in_default
returns-in_default c next end b h = touched_none (c.tell.ensures next end b h)
