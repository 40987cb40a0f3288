use Rattle.std.proofs.Common.{refl}
use Rattle.readings.specs.Held.{full_at_most, held_high, not_high}
use Rattle.readings.proofs.steps.at_most.Goals as goal

pub returns-then-x : goal.returns-then-x
returns-then-x c = (held_high c.args.x c.requires c.if-x.true, full_at_most)

pub returns : goal.returns
returns c = (refl, not_high c.args.x c.requires c.if-x.false)
