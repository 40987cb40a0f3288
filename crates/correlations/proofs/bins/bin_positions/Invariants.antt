-- What is left is to add the positions from i on.
use Rattle.std.proofs.Common.{length}
use Rattle.spec.specs.Score.{taken}
use Rattle.correlations.proofs.Binning.{Binning}
use Rattle.correlations.proofs.bins.bin_positions.Given as goal

abbrev pub invariant-loop-i : goal.invariant-loop-i
invariant-loop-i l = Binning l.cols l.word (taken l.soft) (length l.fn.bins) l.bins l.i
