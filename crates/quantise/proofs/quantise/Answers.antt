-- Refused, or the values of all pairs with 0 behind them.
use Rattle.std.proofs.Common.{◌≡◌, sym, ap, ◌∙◌, rules, ℕ, ◌*◌, ◌/◌, ◌≤◌, length, pos, arith, length-take-le}
use Rattle.spec.specs.Outcome.{padded}
use Rattle.spec.specs.Samples.{soft_pairs, quantised, quantise_served}
use Rattle.refusals.specs.Number.{number_of, refused, not_zero}
use Rattle.slices.specs.Fill.{filled_behind}
use Rattle.laws.specs.SampleCall.{quantises, two_halves, quantise_refused, quantise_served_lem}
use Rattle.quantise.proofs.quantise.Goals as goal

pub returns-in_err-check_samples : goal.returns-in_err-check_samples
returns-in_err-check_samples c =
    let e = c.in_err-check_samples.field-0.0 in
    let h : refused c.from_residual.result ≡ number_of e = search rules in
    ap (λ (k : ℕ). quantised k c.args.soft.now) h
    ∙ quantise_refused c.args.m c.args.samples.now c.args.soft.now (number_of e) c.in_err-check_samples.ensures (not_zero e)

pub size-n-requires : goal.size-n-requires
size-n-requires c = (quantises _ _ _ c.in_ok-check_samples.ensures).high

pub slice_bounds-write_pairs-end : goal.slice_bounds-write_pairs-end
slice_bounds-write_pairs-end c =
    let k = quantises _ _ _ c.in_ok-check_samples.ensures in
    let q = c.size-n.ensures.0 in
    omega (arith, q, k.room)

pub slice_bounds-write_pairs-end-2 : goal.slice_bounds-write_pairs-end-2
slice_bounds-write_pairs-end-2 c =
    let k = quantises _ _ _ c.in_ok-check_samples.ensures in
    let q = c.size-n.ensures.0 in
    sym (length-take-le c.size-n.result c.args.soft.now (omega (arith, q, k.room)))

pub write_pairs-requires : goal.write_pairs-requires
write_pairs-requires c =
    let k = quantises _ _ _ c.in_ok-check_samples.ensures in
    let q = c.size-n.ensures.0 in
    let halves : c.size-n.result ≡ 2 * (c.size-n.result / 2) = rw q (two_halves c.args.m k.low) in (
      length-take-le c.size-n.result c.args.soft.now (omega (arith, q, k.room)) ∙ halves,
      omega (arith, q, halves, k.long),
      omega (arith, c.size-n.ensures.1),
    )

pub returns : goal.returns
unfolding quantise_served
returns c =
    let k = quantises _ _ _ c.in_ok-check_samples.ensures in
    let q = c.size-n.ensures.0 in
    let soft = c.args.soft.now in
    let h : c.size-n.result ≤ length soft = omega (arith, q, k.room) in
    ap (quantised 0)
    (c.fill_from.ensures
    ∙ filled_behind (pos 0) c.write_pairs.new.soft soft c.size-n.result (c.write_pairs.auto.soft ∙ length-take-le c.size-n.result soft h) h
    ∙ ap (padded (pos 0) (length soft)) (c.write_pairs.ensures ∙ ap (λ (n : ℕ). soft_pairs c.args.samples.now 0 (n / 2)) q))
    ∙ quantise_served_lem c.args.m c.args.samples.now soft c.in_ok-check_samples.ensures
