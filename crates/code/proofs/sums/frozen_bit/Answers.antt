use Rattle.std.proofs.Common.{◌≡◌, ap, sym, ◌∙◌, ℕ, ◌+◌, ◌-◌, ◌*◌, ◌/◌, ◌<◌, length, drop, arith}
use Rattle.spec.specs.Code.{pairs_in, sum_at}
use Rattle.laws.specs.Pairs.{sum_pair}
use Rattle.code.proofs.sums.frozen_bit.Goals as goal

pub loop-k-init : goal.loop-k-init
loop-k-init c =
    let e : 4 * (c.args.to / 4) ≡ c.args.to = omega (arith, c.requires.ends) in
    (omega (arith, c.requires.order), λ over. sym (ap (λ (j : ℕ). sum_at (pairs_in (drop j c.args.pairs.now)) c.args.i c.args.w.now) e ∙ over))

pub add_pair-sum-requires : goal.add_pair-sum-requires
add_pair-sum-requires c = omega (arith, c.requires.ends, c.requires.inside)

pub loop-k-preserved : goal.loop-k-preserved
loop-k-preserved c =
    let h : 4 * (c.loop-k.k - 1) + 3 < length c.args.pairs.now = omega (arith, c.requires.ends, c.requires.inside) in
    let e : 4 * c.loop-k.k ≡ 4 * (c.loop-k.k - 1) + 4 = omega arith in (
      omega arith,
      λ over.
          c.add_pair-sum.ensures
          ∙ sum_pair c.args.pairs.now (4 * (c.loop-k.k - 1)) c.args.i c.args.w.now c.loop-k.sum h
          (c.loop-k.invariant.1 over ∙ ap (λ (j : ℕ). sum_at (pairs_in (drop j c.args.pairs.now)) c.args.i c.args.w.now) e),
    )

pub returns : goal.returns
returns c = λ over.
    let z : 4 * c.loop-k.k ≡ c.args.from = omega (arith, c.requires.begins) in
    c.loop-k.invariant.1 over ∙ ap (λ (j : ℕ). sum_at (pairs_in (drop j c.args.pairs.now)) c.args.i c.args.w.now) z
