-- The sum over the pairs from the place on, where none of position i lie behind.
use Rattle.std.proofs.Common.{◌≡◌, ◌*◌, ◌/◌, ◌≤◌, drop}
use Rattle.spec.specs.Code.{pairs_in, sum_at}
use Rattle.code.proofs.sums.frozen_bit.Given as goal

abbrev pub invariant-loop-k : goal.invariant-loop-k
invariant-loop-k l =
    (l.from / 4 ≤ l.k) × (sum_at (pairs_in (drop l.to l.pairs)) l.i l.w ≡ 0 → l.sum ≡ sum_at (pairs_in (drop (4 * l.k) l.pairs)) l.i l.w)
