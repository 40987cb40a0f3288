use Rattle.std.proofs.Common.{arith}
use Rattle.place.specs.Put.{then}
use Rattle.columns.specs.Columns.{right}
use Rattle.columns.proofs.put_right.Goals as goal

pub returns : goal.returns
unfolding right
returns c = (then c.put_spaces-next.ensures.0 c.put_bytes.ensures.0, omega (arith, c.put_bytes.ensures.0.place))
