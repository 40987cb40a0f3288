use Rattle.std.proofs.Common.{◌%◌, get_or}
use Rattle.windows.specs.Op.{Wrote}
use Rattle.positions.specs.Own.{by_bit}
use Rattle.positions.proofs.own.own_costs.Given as goal

abbrev pub invariant-loop-r : goal.invariant-loop-r
invariant-loop-r l = Wrote (λ k. by_bit (get_or l.bits k 0 % 2) (get_or l.fn.costs k 0) (get_or l.ones k 0)) 0 l.r l.fn.costs l.costs
