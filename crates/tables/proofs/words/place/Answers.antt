use Rattle.std.proofs.Common.{◌+◌, ◌≤◌, arith, refl}
use Rattle.std.proofs.Math.Nat.{mul-le-mul}
use Rattle.tables.specs.Tab.{slot_start}
use Rattle.tables.proofs.words.place.Goals as goal

pub returns : goal.returns
unfolding slot_start
returns c = record {
  is = refl;
  small = let k : c.args.l + c.args.s ≤ 64 = omega arith in mul-le-mul c.requires.0 k;
}
