-- The last pair, behind which nothing stands, and one pair more.
use Rattle.std.proofs.Common.{◌≤◌, ◌-◌, ◌*◌, arith}
use Rattle.std.proofs.Math.Nat.{mul-le-mul_left}
use Rattle.transform.proofs.Layers.{twice}
use Rattle.transform.proofs.Joining.{joined_first, joined_turn}
use Rattle.transform.proofs.layer.join.Goals as goal

pub loop-k-init : goal.loop-k-init
loop-k-init c = joined_first c.args.h c.args.at c.args.d c.requires

pub overflow_mul-i : goal.overflow_mul-i
overflow_mul-i c =
    let less : c.loop-k.k - 1 ≤ c.args.h = omega arith in
    omega (arith, twice c.args.h c.requires, mul-le-mul_left (2 * c.args.d) less)

pub loop-k-preserved : goal.loop-k-preserved
loop-k-preserved c = joined_turn c.requires c.loop-k.invariant (omega arith) (omega arith)
