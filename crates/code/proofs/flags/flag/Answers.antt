-- Position i is bit i mod 8 of byte i div 8.
use Rattle.std.proofs.Common.{sym}
use Rattle.laws.specs.MapBits.{get_d_unpacked}
use Rattle.code.proofs.flags.flag.Goals as goal

pub returns : goal.returns
returns c = sym (get_d_unpacked c.args.map.now c.args.i)
