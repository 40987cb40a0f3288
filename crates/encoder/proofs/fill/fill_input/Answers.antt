use Rattle.std.proofs.Common.{sym, arith, length-take-le}
use Rattle.encoder.proofs.Turns.{next, summing_start, summing_run, summing_end}
use Rattle.encoder.proofs.fill.fill_input.Goals as goal

pub loop-at-init : goal.loop-at-init
loop-at-init c =
    summing_start c.requires.0 c.requires.2 c.requires.1 c.spread_payload.auto.input c.spread_payload.ensures

pub slice_bounds-frozen_bit-end : goal.slice_bounds-frozen_bit-end
slice_bounds-frozen_bit-end c =
    let r = next c.requires.0 c.loop-at.invariant c.named-f.ensures.0 c.loop-at-test.true c.run_end-to.ensures.0 c.run_end-to.ensures.1 in
    omega (arith, r.inside)

pub slice_bounds-frozen_bit-end-in-loop-at : goal.slice_bounds-frozen_bit-end-in-loop-at
slice_bounds-frozen_bit-end-in-loop-at c =
    let r = next c.requires.0 c.loop-at.invariant c.named-f.ensures.0 c.loop-at-test.true c.run_end-to.ensures.0 c.run_end-to.ensures.1 in
    sym (length-take-le c.named-f.result c.loop-at.input (omega (arith, r.inside)))

pub bounds-input-f : goal.bounds-input-f
bounds-input-f c =
    (next c.requires.0 c.loop-at.invariant c.named-f.ensures.0 c.loop-at-test.true c.run_end-to.ensures.0 c.run_end-to.ensures.1).inside

pub loop-at-smaller : goal.loop-at-smaller
loop-at-smaller c =
    let r = next c.requires.0 c.loop-at.invariant c.named-f.ensures.0 c.loop-at-test.true c.run_end-to.ensures.0 c.run_end-to.ensures.1 in
    omega (arith, r.forward)

pub loop-at-preserved : goal.loop-at-preserved
loop-at-preserved c =
    let r = next c.requires.0 c.loop-at.invariant c.named-f.ensures.0 c.loop-at-test.true c.run_end-to.ensures.0 c.run_end-to.ensures.1 in
    summing_run c.requires.0 c.loop-at.invariant r c.frozen_bit.ensures

pub returns : goal.returns
returns c = λ m arikan e. summing_end c.requires.0 c.loop-at.invariant c.loop-at-test.false m arikan e
