-- The engine: it stops at each message that touches an order, and what that message does is stored where the orders lie.
-- Assumes nothing.
use Rattle.std.proofs.Common.{◌≡◌, ℕ, ◌<◌, Bool, List, get_or, refl, ap, ◌∙◌, arith, Some}
use lib.ListN.{length-replicate}
use Rattle.book.specs.Tables.{blank}
use Rattle.book.specs.declared.tables.Order.{Order}
use Rattle.session.specs.Engine.{AtPlace, Came, Task, steps_left}
use Rattle.session.specs.declared.advancing.AtHand.{AtHand}
use Rattle.session.specs.declared.advancing.Ended.{Ended}
use Rattle.session.specs.declared.advancing.Point.{Point}
use Rattle.session.proofs.Engine.{going_starts, stored_put, stored_remove}
use Rattle.session.proofs.running.run.Goals as goal

-- a message is at hand
module _ {t : Task} {s : List ℕ} {single : Bool} {os : List Order} {room window answers text : List ℕ} {before point : Point}
    (came : Came t s single os room window answers text before point) {hand : AtHand} (h : point.at_hand ≡ Some hand) where
  at_place : AtPlace t s single os room window answers text point hand (get_or os hand.place blank)
  at_place = record { waits = came.waits hand h; there = refl }

  within : hand.place < 256
  within = (came.waits hand h).within

  fewer : steps_left point < steps_left before
  fewer = came.fewer hand h

pub loop-point-init : goal.loop-point-init
loop-point-init c =
    going_starts c.requires.ruled c.args.packets.now c.args.single c.args.answers.now c.args.due c.requires.runs _ (length-replicate {A = ℕ} 128 0) c.begin-point.ensures

pub advance-point-requires : goal.advance-point-requires
advance-point-requires c = (_, _, c.loop-point.invariant)

pub offset_bounds-session-place : goal.offset_bounds-session-place
offset_bounds-session-place c = omega (arith, within (c.advance-point.ensures _ _ c.loop-point.invariant) c.in-Some.is)

pub bounds-session-place : goal.bounds-session-place
bounds-session-place c = within (c.advance-point.ensures _ _ c.loop-point.invariant) c.in-Some.is

pub settle-requires : goal.settle-requires
settle-requires c = (_, _, _, _, _, at_place (c.advance-point.ensures _ _ c.loop-point.invariant) c.in-Some.is)

pub offset_bounds-session-last : goal.offset_bounds-session-last
offset_bounds-session-last c =
    omega (arith, (c.settle.ensures _ _ _ _ _ (at_place (c.advance-point.ensures _ _ c.loop-point.invariant) c.in-Some.is)).last _ c.in-Moves.is)

pub bounds-session-last : goal.bounds-session-last
bounds-session-last c = (c.settle.ensures _ _ _ _ _ (at_place (c.advance-point.ensures _ _ c.loop-point.invariant) c.in-Some.is)).last _ c.in-Moves.is

pub offset_bounds-session-place-in-Moves : goal.offset_bounds-session-place-in-Moves
offset_bounds-session-place-in-Moves c = omega (arith, within (c.advance-point.ensures _ _ c.loop-point.invariant) c.in-Some.is)

pub bounds-session-place-in-Moves : goal.bounds-session-place-in-Moves
bounds-session-place-in-Moves c = within (c.advance-point.ensures _ _ c.loop-point.invariant) c.in-Some.is

pub offset_bounds-session-last-in-Moves : goal.offset_bounds-session-last-in-Moves
offset_bounds-session-last-in-Moves c =
    omega (arith, (c.settle.ensures _ _ _ _ _ (at_place (c.advance-point.ensures _ _ c.loop-point.invariant) c.in-Some.is)).last _ c.in-Moves.is)

pub bounds-session-last-in-Moves : goal.bounds-session-last-in-Moves
bounds-session-last-in-Moves c = (c.settle.ensures _ _ _ _ _ (at_place (c.advance-point.ensures _ _ c.loop-point.invariant) c.in-Some.is)).last _ c.in-Moves.is

pub loop-point-smaller-in-Moves : goal.loop-point-smaller-in-Moves
loop-point-smaller-in-Moves c = fewer (c.advance-point.ensures _ _ c.loop-point.invariant) c.in-Some.is

pub loop-point-preserved-in-Moves : goal.loop-point-preserved-in-Moves
loop-point-preserved-in-Moves c =
    stored_remove (c.settle.ensures _ _ _ _ _ (at_place (c.advance-point.ensures _ _ c.loop-point.invariant) c.in-Some.is)) c.in-Moves.is c.no_order.ensures

pub offset_bounds-session-place-in-Stores : goal.offset_bounds-session-place-in-Stores
offset_bounds-session-place-in-Stores c = omega (arith, within (c.advance-point.ensures _ _ c.loop-point.invariant) c.in-Some.is)

pub bounds-session-place-in-Stores : goal.bounds-session-place-in-Stores
bounds-session-place-in-Stores c = within (c.advance-point.ensures _ _ c.loop-point.invariant) c.in-Some.is

pub loop-point-smaller : goal.loop-point-smaller
loop-point-smaller c = fewer (c.advance-point.ensures _ _ c.loop-point.invariant) c.in-Some.is

pub loop-point-preserved : goal.loop-point-preserved
loop-point-preserved c =
    stored_put (c.settle.ensures _ _ _ _ _ (at_place (c.advance-point.ensures _ _ c.loop-point.invariant) c.in-Some.is)) c.in-Stores.is

pub ended-requires : goal.ended-requires
ended-requires c = ((c.advance-point.ensures _ _ c.loop-point.invariant).over c.in_default.is).left

pub returns-in_default : goal.returns-in_default
returns-in_default c =
    let o = (c.advance-point.ensures _ _ c.loop-point.invariant).over c.in_default.is in
    record {
      held = o.held;
      answers = o.answers;
      taken = ap (λ (e : Ended). e.taken) c.ended.ensures ∙ o.taken;
      at = ap (λ (e : Ended). e.at) c.ended.ensures ∙ o.at;
    }
