-- The pairs that are passed are all of position i.
use Rattle.std.proofs.Common.{ℕ, List, ◌*◌}
use Rattle.laws.specs.PairRuns.{Part, Reached, Within}
use Rattle.code.proofs.sums.run_end.Given as goal

abbrev pub invariant-loop-k : goal.invariant-loop-k
invariant-loop-k l = Part l.from (4 * l.k) l.pairs × ((flags : List ℕ) → Reached flags l.i l.from l.pairs → Within flags l.i (4 * l.k) l.pairs)
