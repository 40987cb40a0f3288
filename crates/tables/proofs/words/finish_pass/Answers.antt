use Rattle.std.proofs.Common.{arith}
use Rattle.tables.proofs.Rows.{rows_more}
use Rattle.tables.proofs.words.finish_pass.Goals as goal

pub loop-i-preserved : goal.loop-i-preserved
loop-i-preserved c = rows_more _ _ _ _ _ _ _ _ _ (omega arith) c.loop-i.invariant c.finish.ensures
    (λ m _. c.loop-i.invariant.above _ (omega arith))
