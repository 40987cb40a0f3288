use Rattle.std.proofs.Common.{arith}
use Rattle.place.specs.Put.{then}
use Rattle.row_text.proofs.lines.put_words.Goals as goal

pub returns : goal.returns
returns c = (then (then (then c.put_byte-a.ensures.0 c.put_bits-b.ensures.0) c.put_byte-c.ensures.0) c.put_bits.ensures.0, omega arith)
