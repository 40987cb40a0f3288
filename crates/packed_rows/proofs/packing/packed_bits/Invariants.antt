use Rattle.std.proofs.Common.{◌≡◌, drop}
use Rattle.spec.specs.Bits.{packed}
use Rattle.packed_rows.proofs.packing.packed_bits.Given as goal

abbrev pub invariant-loop-i : goal.invariant-loop-i
invariant-loop-i l = l.x ≡ packed (drop l.i l.bits)
