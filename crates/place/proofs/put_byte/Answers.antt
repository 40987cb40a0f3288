use Rattle.std.proofs.Common.{refl, arith}
use Rattle.place.specs.Put.{placed_one}
use Rattle.place.proofs.put_byte.Goals as goal

pub returns : goal.returns
returns c = (record { place = refl; bytes = placed_one c.args.at c.args.x c.args.out.now }, omega arith)
