use Rattle.std.proofs.Common.{arith}
use Rattle.tables.proofs.Grounds.{ground_more}
use Rattle.tables.proofs.base.ground.Goals as goal

pub loop-r-preserved : goal.loop-r-preserved
loop-r-preserved c = ground_more _ _ _ _ _ _ _ _ _ _ c.requires.0.low (omega arith) c.loop-r.invariant c.picks_row.ensures
