use Rattle.std.proofs.Common.{arith}
use Rattle.rows.proofs.ReadBack.{came_none, came_step, came_end, came_low}
use Rattle.rows.proofs.inputs.trace_back.Goals as goal

pub loop-i-init : goal.loop-i-init
loop-i-init c = (c.requires.0, came_none _ _ _ _ _ _ c.requires.2 c.requires.4)

pub overflow_sub-base : goal.overflow_sub-base
overflow_sub-base c = came_low (omega arith) c.loop-i.invariant.1

pub loop-i-preserved : goal.loop-i-preserved
loop-i-preserved c =
    let a = c.args in (
      omega arith,
      rw c.from-rank.ensures
          (came_step a.l a.p a.r a.history.now a.row.now c.loop-i.row c.loop-i.i c.loop-i.base c.loop-i.rank c.requires.1 (omega arith) c.loop-i.invariant.1),
    )

pub returns : goal.returns
returns c = came_end (omega arith) c.loop-i.invariant.1
