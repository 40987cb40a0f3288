use Rattle.std.proofs.Common.{arith}
use Rattle.laws.specs.Taken.{magnitude_range}
use Rattle.block_rows.proofs.write_costs.Goals as goal

pub write_scores-requires : goal.write_scores-requires
write_scores-requires c =
    let f = c.requires in
    let e = c.magnitude-total.ensures in
    record {
      small = omega (arith, e, magnitude_range c.args.soft.now f.range, f.short);
      few = f.few;
      room = f.places;
      there = c.read_costs.ensures.long;
      below = λ r h. omega (arith, c.read_costs.ensures.are r h, f.below r h, e);
    }

pub ceiling_of-requires : goal.ceiling_of-requires
ceiling_of-requires c =
    let f = c.requires in
    let e = c.magnitude-total.ensures in
    record {
      small = omega (arith, e, magnitude_range c.args.soft.now f.range, f.short);
      below = omega (arith, f.below 0 f.one, e);
    }
