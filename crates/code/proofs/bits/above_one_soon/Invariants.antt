-- The bytes that are left decide, and there are 64 for each turn that is left.
use Rattle.std.proofs.Common.{◌≡◌, ◌+◌, ◌*◌, length, ltb}
use Rattle.spec.specs.Faults.{some}
use Rattle.code.proofs.bits.above_one_soon.Given as goal

abbrev pub invariant-loop : goal.invariant-loop
invariant-loop l = (some (ltb 1) l.s ≡ some (ltb 1) l.rest) × (length l.rest + 64 * l.counter ≡ length l.s)
