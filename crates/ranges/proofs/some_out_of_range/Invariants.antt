-- What was found so far, or the values that are left, decide.
use Rattle.std.proofs.Common.{◌≡◌, ◌||◌, drop}
use Rattle.spec.specs.Faults.{some}
use Rattle.spec.specs.Refusals.{out_of_range}
use Rattle.ranges.proofs.some_out_of_range.Given as goal

abbrev pub invariant-loop-y : goal.invariant-loop-y
invariant-loop-y l = some out_of_range l.soft ≡ (l.outside || some out_of_range (drop l.y-index l.soft))
