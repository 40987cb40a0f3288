use Rattle.std.proofs.Common.{refl, sym, ap, ◌∙◌, Bool, ◌||◌, length, arith}
use mathlib.Core.Bool.{or-false}
use Rattle.spec.specs.Code.{code}
use Rattle.laws.specs.FrozenMap.{broken_end}
use Rattle.laws.specs.MapBits.{flags_of, length_flags}
use Rattle.laws.specs.PairRuns.{reached_start, part_start, part_next, next_run, unsummed_end}
use Rattle.extractor.proofs.gather.breaks_rule.Goals as goal

pub loop-at-init : goal.loop-at-init
loop-at-init c =
    let p = c.requires.1 in
    (part_start p.whole, reached_start (flags_of (length c.args.input.now) c.args.map.now) c.args.pairs.now p, omega arith, λ m arikan. refl)

pub run_broken-requires : goal.run_broken-requires
run_broken-requires c =
    (c.requires.0, next_run c.loop-at.invariant.1 c.named-f.ensures.0 c.loop-at-test.true c.run_end-to.ensures.0 c.run_end-to.ensures.1)

pub loop-at-smaller : goal.loop-at-smaller
loop-at-smaller c =
    let r = next_run c.loop-at.invariant.1 c.named-f.ensures.0 c.loop-at-test.true c.run_end-to.ensures.0 c.run_end-to.ensures.1 in
    omega (arith, r.order, r.inside, length_flags (length c.args.input.now) c.args.map.now c.requires.0)

pub loop-at-preserved : goal.loop-at-preserved
loop-at-preserved c =
    let r = next_run c.loop-at.invariant.1 c.named-f.ensures.0 c.loop-at-test.true c.run_end-to.ensures.0 c.run_end-to.ensures.1 in (
      part_next r.part,
      r.next,
      omega (arith, r.inside, length_flags (length c.args.input.now) c.args.map.now c.requires.0),
      λ m arikan. c.loop-at.invariant.3 m arikan ∙ c.if-run_broken.ensures m arikan,
    )

pub returns : goal.returns
returns c = λ m arikan.
    let u = c.args.input.now in
    let k = code m arikan c.args.map.now c.args.pairs.now in
    let fs = flags_of (length u) c.args.map.now in
    sym (c.loop-at.invariant.3 m arikan
    ∙ c.frozen_bit_set.ensures k (unsummed_end c.loop-at.invariant.1 (length u) c.loop-at-test.false)
    ∙ ap (λ (b : Bool). c.frozen_bit_set.result || b) (broken_end k fs u (length u) (omega (arith, length_flags (length u) c.args.map.now c.requires.0)))
    ∙ or-false c.frozen_bit_set.result)
