use Rattle.std.proofs.Common.{ℕ, ◌≡◌, ◌+◌, ◌-◌, ◌*◌, ap, ◌∙◌, arith, take, drop}
use Rattle.spec.specs.Code.{pairs_in, sum_at}
use Rattle.tables.proofs.Sums.{wrote_first}
use Rattle.positions.specs.Own.{own_sum}
use Rattle.positions.proofs.own.sum_rows.Goals as goal

pub loop-r-preserved : goal.loop-r-preserved
loop-r-preserved c = λ over.
    let a = c.args in
    let at = a.n * c.loop-r.r in
    let k : at + a.i - at ≡ a.i = omega arith in
    wrote_first (own_sum a.from a.i a.n a.pairs.now a.rows.now) c.loop-r.r _ a.bits.now c.loop-r.bits (omega (arith, c.requires.1, c.requires.5))
    (c.frozen_bit.ensures (over (take (at + a.i - at) (drop at a.rows.now)))
    ∙ ap (λ (j : ℕ). sum_at (pairs_in (drop a.from a.pairs.now)) a.i (take j (drop at a.rows.now))) k)
    (c.loop-r.invariant over)
