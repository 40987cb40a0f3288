use Rattle.std.proofs.Common.{◌≡◌, ◌-◌, ◌*◌, ◌++◌, take, length}
use Rattle.spec.specs.Bits.{Bits}
use Rattle.laws.specs.PackedRows.{packed_each}
use Rattle.packed_rows.proofs.packing.put_packed.Given as goal

-- what is written, and the bytes of the bits that are left, are those of all bits
abbrev pub invariant-loop-x : goal.invariant-loop-x
invariant-loop-x l = record {
  bits : Bits l.left;
  long : length l.left ≡ (l.count - l.x-index) * l.w;
  bytes : packed_each l.w l.count l.bits ≡ take l.x-index l.x-items ++ packed_each l.w (l.count - l.x-index) l.left;
}
