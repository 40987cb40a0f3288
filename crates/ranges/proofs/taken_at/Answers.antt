-- Where no value is out of range, that of a position is not.
use Rattle.std.proofs.Common.{◌≡◌, false, get_or, pos, arith}
use Rattle.std.proofs.lemmas.Int.{ints, to_z-of_z}
use Rattle.spec.specs.Refusals.{out_of_range}
use Rattle.ranges.specs.InRange.{in_range_at}
use Rattle.ranges.proofs.taken_at.Goals as goal

pub saturated-requires : goal.saturated-requires
saturated-requires c =
    let e : out_of_range (get_or c.args.soft.now c.args.i (pos 0)) ≡ false = in_range_at c.args.soft.now c.args.i c.requires.1 in
    search (arith, ints, to_z-of_z, e)
