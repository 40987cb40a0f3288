use Rattle.std.proofs.Common.{◌≡◌, sym, ◌∙◌, pos, get_or, arith}
use Rattle.std.proofs.lemmas.Int.{ints, to_z-of_z}
use Rattle.spec.specs.Refusals.{out_of_range}
use Rattle.laws.specs.MapBits.{some_turn, some_done}
use Rattle.ranges.proofs.some_out_of_range.Goals as goal

pub loop-y-preserved : goal.loop-y-preserved
loop-y-preserved c =
    let e : c.out_of_range-outside.result ≡ out_of_range (get_or c.args.soft.now c.loop-y.y-index (pos 0)) = search (arith, ints, to_z-of_z, c.out_of_range-outside.ensures) in
    c.loop-y.invariant ∙ some_turn out_of_range (pos 0) c.args.soft.now c.loop-y.y-index c.loop-y.outside c.out_of_range-outside.result c.loop-y-test.true e

pub returns : goal.returns
returns c = sym (c.loop-y.invariant ∙ some_done out_of_range c.args.soft.now c.loop-y.y-index c.loop-y.outside c.loop-y-test.false)
