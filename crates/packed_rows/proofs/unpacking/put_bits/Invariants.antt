use Rattle.std.proofs.Common.{◌≡◌, ◌+◌, ◌-◌}
use Rattle.spec.specs.Bits.{bits_of}
use Rattle.place.specs.Put.{Left}
use Rattle.packed_rows.proofs.unpacking.put_bits.Given as goal

-- the bits that are left to write complete those of x
abbrev pub invariant-loop : goal.invariant-loop
invariant-loop l = record {
  place : l.next ≡ l.at + l.counter;
  bits : Left l.at (bits_of l.w l.x) l.fn.out l.next (bits_of (l.w - l.counter) l.rest) l.out;
}
