-- None follows, or one does: by how many are asked for, and by the length before it.
-- Assumes nothing.
use Rattle.window_taking.proofs.Following.{by_length, no_length, none_asked, one_packet}
use Rattle.window_burst.proofs.done.Goals as goal

pub returns-then-turn-eq0 : goal.returns-then-turn-eq0
returns-then-turn-eq0 c = none_asked c.args.single c.args.s.now c.args.turn c.if-turn-eq0.true

pub returns-then-single : goal.returns-then-single
returns-then-single c = one_packet c.args.single c.args.s.now c.args.turn c.if-turn-eq0.false c.requires c.if-single.true

pub returns-then-left-lt2 : goal.returns-then-left-lt2
returns-then-left-lt2 c = no_length c.args.single c.args.s.now c.args.turn c.if-turn-eq0.false c.requires c.if-single.false c.if-left-lt2.true

pub returns : goal.returns
returns c = by_length c.args.single c.args.s.now c.args.turn c.if-turn-eq0.false c.requires c.if-single.false c.if-left-lt2.false c.framed-frame.ensures
