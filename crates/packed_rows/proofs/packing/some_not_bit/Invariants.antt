use Rattle.std.proofs.Common.{◌≡◌, ◌||◌, ltb, drop}
use Rattle.spec.specs.Faults.{some}
use Rattle.packed_rows.proofs.packing.some_not_bit.Given as goal

-- what was found so far, or the bytes that are left, decide
abbrev pub invariant-loop-b : goal.invariant-loop-b
invariant-loop-b l = some (ltb 1) l.bits ≡ (l.found || some (ltb 1) (drop l.b-index l.bits))
