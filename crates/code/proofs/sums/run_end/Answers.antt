use Rattle.std.proofs.Common.{◌≡◌, sym, ◌∙◌, subst, ℕ, ◌+◌, ◌*◌, ◌/◌, ◌<◌, length, arith}
use Rattle.laws.specs.PairRuns.{Part, Within, within_start, within_past, within_more, within_end}
use Rattle.code.proofs.sums.run_end.Goals as goal

pub loop-k-init : goal.loop-k-init
loop-k-init c =
    let p = c.requires in
    let e : c.args.from ≡ 4 * (c.args.from / 4) = omega (arith, p.begins) in (
      subst (λ (t : ℕ). Part c.args.from t c.args.pairs.now) e p,
      λ flags r. subst (λ (t : ℕ). Within flags c.args.i t c.args.pairs.now) e (within_start flags c.args.i c.args.from c.args.pairs.now r),
    )

pub named-requires : goal.named-requires
named-requires c = omega (arith, c.loop-k.invariant.0.whole)

pub returns-then-named-i : goal.returns-then-named-i
returns-then-named-i c =
    let h : 4 * c.loop-k.k + 3 < length c.args.pairs.now = omega (arith, c.loop-k.invariant.0.whole) in (
      c.loop-k.invariant.0,
      λ flags r.
          within_past flags c.args.i (4 * c.loop-k.k) c.args.pairs.now h (λ e. c.if-named-i.true (c.named.ensures.0 ∙ e)) (c.loop-k.invariant.1 flags r),
    )

pub loop-k-preserved : goal.loop-k-preserved
loop-k-preserved c =
    let p = c.loop-k.invariant.0 in
    let h : 4 * c.loop-k.k + 3 < length c.args.pairs.now = omega (arith, p.whole) in
    let e : 4 * c.loop-k.k + 4 ≡ 4 * (c.loop-k.k + 1) = omega arith in (
      record { whole = p.whole; begins = p.begins; ends = omega arith; order = omega (arith, p.order); inside = omega (arith, h) },
      λ flags r.
          subst (λ (t : ℕ). Within flags c.args.i t c.args.pairs.now) e
          (within_more flags c.args.i (4 * c.loop-k.k) c.args.pairs.now h (sym c.named.ensures.0 ∙ c.if-named-i.false) (c.loop-k.invariant.1 flags r)),
    )

pub returns : goal.returns
returns c =
    let p = c.requires in
    let e : 4 * c.loop-k.k ≡ length c.args.pairs.now = omega (arith, p.whole, p.begins, p.inside, p.order) in
    let q : Part c.args.from (length c.args.pairs.now) c.args.pairs.now
    = record { whole = p.whole; begins = p.begins; ends = p.whole; order = omega (arith, p.order, p.inside); inside = omega arith } in (
      q,
      λ flags r.
          within_end flags c.args.i (length c.args.pairs.now) c.args.pairs.now (omega arith)
          (subst (λ (t : ℕ). Within flags c.args.i t c.args.pairs.now) e (c.loop-k.invariant.1 flags r)),
    )
