-- What was found so far, or the bytes that are left, decide.
use Rattle.std.proofs.Common.{◌≡◌, ◌||◌, drop, ltb}
use Rattle.spec.specs.Faults.{some}
use Rattle.code.proofs.bits.above_one.Given as goal

abbrev pub invariant-loop-x : goal.invariant-loop-x
invariant-loop-x l = some (ltb 1) l.s ≡ (l.above || some (ltb 1) (drop l.x-index l.s))
