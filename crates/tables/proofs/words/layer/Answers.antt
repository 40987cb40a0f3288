use Rattle.std.proofs.Common.{arith}
use Rattle.tables.proofs.Passes.{layer_more}
use Rattle.tables.proofs.words.layer.Goals as goal

pub loop-r-preserved : goal.loop-r-preserved
loop-r-preserved c = layer_more _ _ _ _ _ _ _ _ _ _ _ _ _ (omega arith) c.loop-r.invariant c.row.ensures
