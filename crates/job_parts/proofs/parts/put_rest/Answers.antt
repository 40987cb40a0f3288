-- The map, the pairs and the soft values one behind the other.
use Rattle.std.proofs.Common.{arith}
use Rattle.place.specs.Put.{then}
use Rattle.laws.specs.WrittenForm.{rest_length, pairs_within}
use Rattle.job_parts.proofs.parts.put_rest.Goals as goal

pub put_pairs-b-requires : goal.put_pairs-b-requires
put_pairs-b-requires c =
    let a = c.args in (
      c.requires.0,
      c.requires.1,
      omega (arith, c.requires.2, c.requires.4, rest_length a.frozen.now a.pairs.now a.soft.now, pairs_within a.pairs.now, c.put_bytes-a.ensures.0.place),
    )

pub put_soft-requires : goal.put_soft-requires
put_soft-requires c =
    let a = c.args in
    (c.requires.3, omega (arith, c.requires.4, rest_length a.frozen.now a.pairs.now a.soft.now, c.put_bytes-a.ensures.0.place, c.put_pairs-b.ensures.place))

pub returns : goal.returns
returns c = then c.put_bytes-a.ensures.0 (then c.put_pairs-b.ensures c.put_soft.ensures.0)
