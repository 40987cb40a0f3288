use Rattle.std.proofs.Common.{drop}
use Rattle.place.specs.Put.{Left}
use Rattle.laws.specs.PackedRows.{bits_of_each}
use Rattle.packed_rows.proofs.unpacking.put_unpacked.Given as goal

-- the bits of the bytes that are left complete those of all
abbrev pub invariant-loop-x : goal.invariant-loop-x
invariant-loop-x l = Left 0 (bits_of_each l.w l.packed) l.fn.out l.next (bits_of_each l.w (drop l.x-index l.packed)) l.out
