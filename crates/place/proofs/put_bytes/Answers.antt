use Rattle.std.proofs.Common.{refl, arith}
use Rattle.place.specs.Put.{put_part}
use Rattle.place.proofs.put_bytes.Goals as goal

pub returns : goal.returns
returns c = rw c.copy.ensures (put_part c.args.at _ c.args.bytes.now c.args.out.now refl c.requires, omega arith)
