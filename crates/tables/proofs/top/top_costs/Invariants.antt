use Rattle.windows.specs.Op.{Wrote}
use Rattle.tables.specs.Top.{top_cost}
use Rattle.tables.proofs.top.top_costs.Given as goal

abbrev pub invariant-loop-r : goal.invariant-loop-r
invariant-loop-r l = record {
  zeros : Wrote (top_cost l.n l.l l.h l.t l.b l.slots 0) 0 l.r l.fn.zeros l.zeros;
  ones : Wrote (top_cost l.n l.l l.h l.t l.b l.slots 1) 0 l.r l.fn.ones l.ones;
}
