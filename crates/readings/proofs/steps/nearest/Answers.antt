use Rattle.std.proofs.Common.{arith}
use Rattle.readings.specs.Rounding.{by_adding}
use Rattle.readings.proofs.steps.nearest.Goals as goal

pub returns : goal.returns
returns c = (by_adding c.args.a, omega arith)
