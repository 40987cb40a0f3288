-- The three fields one behind the other.
use Rattle.std.proofs.Common.{arith}
use Rattle.place.specs.Put.{then}
use Rattle.job_parts.proofs.options.Options.put.Goals as goal

pub returns : goal.returns
returns c = (
  then c.put_unless-a.ensures.0 (then c.put_unless-b.ensures.0 c.put_unless.ensures.0),
  omega (arith, c.put_unless-a.ensures.1, c.put_unless-b.ensures.1, c.put_unless.ensures.1),
)
