use Rattle.std.proofs.Common.{◌≡◌, ◌+◌, drop}
use Rattle.spec.specs.Score.{taken}
use Rattle.laws.specs.Cost.{magnitude}
use Rattle.rows.proofs.scores.magnitude.Given as goal

abbrev pub invariant-loop-i : goal.invariant-loop-i
invariant-loop-i l = l.sum + magnitude (drop l.i (taken l.soft)) ≡ magnitude (taken l.soft)
