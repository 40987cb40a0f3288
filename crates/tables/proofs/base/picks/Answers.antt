use Rattle.std.proofs.Common.{arith}
use Rattle.tables.proofs.Grounds.{picks_more}
use Rattle.tables.proofs.base.picks.Goals as goal

pub loop-i-preserved : goal.loop-i-preserved
loop-i-preserved c = picks_more _ _ _ _ _ _ _ _ _ _ _ _ (omega arith) c.decided-z.ensures.0 c.loop-i.invariant c.bottom.ensures
