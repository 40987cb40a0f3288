use Rattle.std.proofs.Common.{arith}
use Rattle.tables.proofs.Sums.{sum_more}
use Rattle.tables.proofs.bytes.sums.Goals as goal

pub loop-r-preserved : goal.loop-r-preserved
loop-r-preserved c = sum_more _ _ _ _ _ _ _ _ c.requires.0.low (omega arith)
    (c.requires.1.named _ c.loop-r-test.true) c.loop-r.invariant c.sum_row.ensures
