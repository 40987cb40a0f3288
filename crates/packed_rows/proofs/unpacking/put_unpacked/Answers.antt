use Rattle.std.proofs.Common.{◌+◌, ℕ, length, get_or, drop, ap, arith, length-append}
use Rattle.spec.specs.Bits.{bits_of}
use Rattle.place.specs.Put.{all_left, less_left, none_left}
use Rattle.laws.specs.MapBits.{length_bits_of}
use Rattle.laws.specs.PackedRows.{bits_of_each}
use Rattle.packed_rows.specs.Turns.{bytes_turn, bytes_done}
use Rattle.packed_rows.proofs.unpacking.put_unpacked.Goals as goal

pub loop-x-init : goal.loop-x-init
loop-x-init c = all_left 0 (bits_of_each c.args.w c.args.packed.now) c.args.out.now

-- there is room for the bits of the next byte
pub put_bits-next-requires : goal.put_bits-next-requires
put_bits-next-requires c =
    let a = c.args in
    let i = c.loop-x.x-index in
    let x : ℕ = get_or a.packed.now i 0 in
    omega (
      arith,
      c.loop-x.invariant.place,
      ap length (bytes_turn a.w i a.packed.now c.loop-x-test.true),
      length-append (bits_of a.w x) (bits_of_each a.w (drop (i + 1) a.packed.now)),
      length_bits_of a.w x,
      c.requires,
    )

pub loop-x-preserved : goal.loop-x-preserved
loop-x-preserved c = less_left c.loop-x.invariant (bytes_turn c.args.w c.loop-x.x-index c.args.packed.now c.loop-x-test.true) c.put_bits-next.ensures.0

pub returns : goal.returns
returns c = (none_left c.loop-x.invariant (bytes_done c.args.w c.loop-x.x-index c.args.packed.now c.loop-x-test.false), omega (arith, c.loop-x.invariant.place, c.requires))
