-- The pairs from the loop's place on are joined.
use Rattle.std.proofs.Common.{◌+◌, ◌*◌}
use Rattle.transform.proofs.Joining.{Joined}
use Rattle.transform.proofs.layer.join.Given as goal

abbrev pub invariant-loop-k : goal.invariant-loop-k
invariant-loop-k l = Joined l.h l.at l.d l.fn.s l.s l.k (l.at + 2 * l.d * l.k)
