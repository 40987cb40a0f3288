-- The four bits of a number below 16.
use Rattle.std.proofs.Common.{arith}
use Rattle.transform.proofs.ShortWords.{bits_four}
use Rattle.transform.proofs.base.unpack.Goals as goal

pub returns : goal.returns
returns c = bits_four c.args.at c.args.d c.args.s.now c.args.x (omega arith) c.requires.1
