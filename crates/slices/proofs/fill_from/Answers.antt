use Rattle.std.proofs.Common.{sym, ◌∙◌, arith}
use Rattle.slices.specs.Fill.{filled_step, filled_end}
use Rattle.slices.proofs.fill_from.Goals as goal

pub loop-i-preserved : goal.loop-i-preserved
loop-i-preserved g c = c.loop-i.invariant ∙ filled_step c.args.value c.loop-i.i c.loop-i.s (omega arith)

pub returns : goal.returns
returns g c = sym (c.loop-i.invariant ∙ filled_end c.args.value c.loop-i.i c.loop-i.s (omega arith))
