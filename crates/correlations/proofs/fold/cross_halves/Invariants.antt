-- The places passed hold the sums and the differences.
use Rattle.correlations.proofs.Crossing.{Crossing}
use Rattle.correlations.proofs.fold.cross_halves.Given as goal

abbrev pub invariant-loop-i : goal.invariant-loop-i
invariant-loop-i l = Crossing l.h l.fn.s l.s l.i
