use Rattle.windows.specs.Op.{Wrote}
use Rattle.positions.specs.Own.{Over, own_sum}
use Rattle.positions.proofs.own.sum_rows.Given as goal

abbrev pub invariant-loop-r : goal.invariant-loop-r
invariant-loop-r l = Over l.to l.i l.pairs → Wrote (own_sum l.from l.i l.n l.pairs l.rows) 0 l.r l.fn.bits l.bits
