use Rattle.std.proofs.Common.{arith}
use Rattle.place.specs.Put.{then}
use Rattle.page.specs.Lines.{last_line}
use Rattle.log_lines.proofs.lines.put_last.Goals as goal

pub returns : goal.returns
unfolding last_line
returns c = (then (then c.put_counts-a.ensures.0 c.put_spaces-b.ensures.0) c.put_byte.ensures.0, omega (arith, c.put_byte.ensures.0.place))
