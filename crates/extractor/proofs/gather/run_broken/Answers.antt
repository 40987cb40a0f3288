use Rattle.std.proofs.Common.{◌∙◌, length, arith}
use Rattle.spec.specs.Code.{code, frozen_bit}
use Rattle.laws.specs.FrozenMap.{broken_turn}
use Rattle.laws.specs.MapBits.{flags_of, length_flags}
use Rattle.extractor.proofs.gather.run_broken.Goals as goal

pub frozen_bit_set-requires : goal.frozen_bit_set-requires
frozen_bit_set-requires c =
    let r = c.requires.1 in
    (c.requires.0, r.order, omega (arith, r.inside, length_flags (length c.args.input.now) c.args.map.now c.requires.0))

pub returns-else-frozen_bit_set : goal.returns-else-frozen_bit_set
unfolding frozen_bit
returns-else-frozen_bit_set c = λ m arikan.
    let u = c.args.input.now in
    let r = c.requires.1 in
    let k = code m arikan c.args.map.now c.args.pairs.now in
    c.if-frozen_bit_set.ensures k r.between
    ∙ broken_turn (flags_of (length u) c.args.map.now) c.args.f r.inside r.frozen k u (c.frozen_bit.ensures (r.over u) ∙ r.sum u)
