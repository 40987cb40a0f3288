use Rattle.std.proofs.Common.{◌≡◌, ◌-◌, arith}
use Rattle.place.specs.Put.{less_left, none_left}
use Rattle.packed_rows.specs.Turns.{bits_turn, bits_done}
use Rattle.packed_rows.proofs.unpacking.put_bits.Goals as goal

pub loop-preserved : goal.loop-preserved
loop-preserved c =
    let put = c.put_byte-next.ensures.0 in
    record {
      place = omega (arith, put.place);
      bits = less_left c.loop.invariant.bits (bits_turn c.args.w c.loop.counter c.loop.rest c.loop-test.true) put;
    }

pub returns : goal.returns
returns c =
    let a = c.args in
    let l = c.loop in
    let none : a.w - l.counter ≡ 0 = omega arith in
    (none_left l.invariant.bits (bits_done (a.w - l.counter) l.rest none), omega arith)
