-- No place, one place more, and all.
use Rattle.std.proofs.Common.{arith}
use Rattle.correlations.proofs.Crossing.{crossing_none, crossing_turn, crossing_done}
use Rattle.correlations.proofs.fold.cross_halves.Goals as goal

pub loop-i-init : goal.loop-i-init
loop-i-init c = crossing_none c.args.h c.args.s.now

pub loop-i-preserved : goal.loop-i-preserved
loop-i-preserved c = crossing_turn c.args.h c.args.s.now c.requires c.loop-i.invariant c.loop-i-test.true

pub returns : goal.returns
returns c = crossing_done c.args.h c.args.s.now c.requires c.loop-i.invariant (omega arith)
