use Rattle.std.proofs.Common.{refl}
use Rattle.readings.specs.Held.{half_within, held_low, not_low}
use Rattle.readings.proofs.steps.at_least.Goals as goal

pub returns-then-x : goal.returns-then-x
returns-then-x c = (held_low c.args.x c.requires c.if-x.true, half_within)

pub returns : goal.returns
returns c = (refl, not_low c.args.x c.requires c.if-x.false)
