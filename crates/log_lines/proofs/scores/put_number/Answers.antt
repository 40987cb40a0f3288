use Rattle.std.proofs.Common.{arith}
use Rattle.place.specs.Put.{then}
use Rattle.log_lines.proofs.scores.put_number.Goals as goal

pub returns : goal.returns
returns g c = (then c.put_byte-gap.ensures.0 c.put_number_right.ensures.0, omega (arith, c.put_byte-gap.ensures.0.place))
