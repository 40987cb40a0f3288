use Rattle.std.proofs.Common.{refl, sym, ◌∙◌, get_or, ltb}
use Rattle.laws.specs.MapBits.{some_turn, some_done}
use Rattle.code.proofs.bits.above_one.Goals as goal

pub loop-x-preserved : goal.loop-x-preserved
loop-x-preserved c =
    c.loop-x.invariant
    ∙ some_turn (ltb 1) 0 c.args.s.now c.loop-x.x-index c.loop-x.above (ltb 1 (get_or c.args.s.now c.loop-x.x-index 0)) c.loop-x-test.true refl

pub returns : goal.returns
returns c = sym (c.loop-x.invariant ∙ some_done (ltb 1) c.args.s.now c.loop-x.x-index c.loop-x.above c.loop-x-test.false)
