use Rattle.std.proofs.Common.{arith}
use Rattle.tables.proofs.Ending.{reached_more}
use Rattle.tables.proofs.phase.reach.Goals as goal

pub loop-e-preserved : goal.loop-e-preserved
loop-e-preserved c = reached_more _ _ _ _ _ _ (omega arith) (λ e. omega (arith, c.if-x-eq1.false))
    (λ e. omega (arith, c.if-x-eq0.false)) c.loop-e.invariant
