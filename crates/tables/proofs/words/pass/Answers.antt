use Rattle.std.proofs.Common.{arith}
use Rattle.tables.proofs.Passes.{plain_same}
use Rattle.tables.proofs.Rows.{rows_more}
use Rattle.tables.proofs.words.pass.Goals as goal

pub loop-i-preserved : goal.loop-i-preserved
loop-i-preserved c = rows_more _ _ _ _ _ _ _ _ _ (omega arith) c.loop-i.invariant c.node.ensures
    (λ m _. plain_same _ _ _ _ _ _ _ _ (λ j h. c.loop-i.invariant.above j (omega arith)) _ m)
