use Rattle.std.proofs.Common.{arith}
use Rattle.tables.proofs.Sums.{push_more}
use Rattle.tables.proofs.bytes.push.Goals as goal

pub loop-r-preserved : goal.loop-r-preserved
loop-r-preserved c = push_more _ _ _ _ _ _ _ _ _ _ c.requires.0.low (omega arith)
    (c.requires.1.named _ c.loop-r-test.true) c.requires.3 c.loop-r.invariant c.push_row.ensures
