use Rattle.std.proofs.Common.{arith}
use Rattle.rows.proofs.InputRows.{inputs_more}
use Rattle.rows.proofs.inputs.write_inputs.Goals as goal

pub loop-r-preserved : goal.loop-r-preserved
loop-r-preserved c =
    inputs_more c.args.history.now c.requires c.loop-r.invariant c.loop-r-test.true _ (omega arith) c.trace_back.ensures.rest c.trace_back.auto.row
