-- To split the pairs from the loop's place on is what is left.
use Rattle.std.proofs.Common.{◌+◌, ◌-◌, ◌*◌}
use Rattle.transform.proofs.Splitting.{Split}
use Rattle.transform.proofs.layer.split.Given as goal

abbrev pub invariant-loop-k : goal.invariant-loop-k
invariant-loop-k l = Split l.h l.at l.d l.fn.s l.s (l.h - 1 - l.k) (l.at + 2 * l.d * l.k)
