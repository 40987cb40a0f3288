use Rattle.block_rows.specs.BlockRows.{CostsRead}
use Rattle.block_rows.proofs.read_costs.Given as goal

abbrev pub invariant-loop-r : goal.invariant-loop-r
invariant-loop-r l = CostsRead l.r l.code l.costs
