-- The places passed hold the sums.
use Rattle.transform.proofs.AddedHalves.{Adding}
use Rattle.transform.proofs.arikan.add_halves.Given as goal

abbrev pub invariant-loop-i : goal.invariant-loop-i
invariant-loop-i l = Adding l.h l.fn.s l.s l.i
