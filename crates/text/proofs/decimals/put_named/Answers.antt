use Rattle.std.proofs.Common.{arith}
use Rattle.place.specs.Put.{then}
use Rattle.text.proofs.decimals.put_named.Goals as goal

pub returns : goal.returns
returns g c = (then c.put_bytes-next.ensures.0 c.put_number.ensures.0, omega arith)
