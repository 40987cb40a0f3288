-- One pair more, and the last pair.
use Rattle.std.proofs.Common.{◌≡◌, ◌+◌, ◌-◌, ◌*◌, arith}
use Rattle.transform.proofs.Splitting.{split_turn, split_last}
use Rattle.transform.proofs.layer.split.Goals as goal

pub loop-k-preserved : goal.loop-k-preserved
loop-k-preserved c =
    let left : c.args.h - 1 - (c.loop-k.k + 1) ≡ c.args.h - 1 - c.loop-k.k - 1 = omega arith in
    let place : c.args.at + 2 * c.args.d * (c.loop-k.k + 1) ≡ c.args.at + 2 * c.args.d * c.loop-k.k + 2 * c.args.d = omega arith in
    rw (left, place) (split_turn c.requires c.loop-k.invariant (omega arith))

pub returns : goal.returns
returns c =
    let all : c.args.h - 1 ≡ c.loop-k.k = omega arith in
    rw all (split_last c.requires c.loop-k.invariant (omega arith))
