-- The ones of the map and the clear positions make n.
use Rattle.std.proofs.Common.{false, [], ◌^◌, ◌≤◌, arith}
use lib.Pow.{pow_mono}
use Rattle.spec.specs.Code.{code}
use Rattle.laws.specs.MapBits.{clear_frozen}
use Rattle.code.proofs.payload.payload_size.Goals as goal

pub count_frozen-frozen-requires : goal.count_frozen-frozen-requires
count_frozen-frozen-requires c =
    let p : 2 ^ c.args.m ≤ 1024 = pow_mono {i = c.args.m} {j = 10} c.requires.0 in
    omega (arith, c.requires.1)

pub overflow_sub-result : goal.overflow_sub-result
overflow_sub-result c =
    omega (arith, clear_frozen (code c.args.m false c.args.map.now []) c.count_frozen-frozen.result c.requires.1 c.requires.2 c.count_frozen-frozen.ensures)

pub returns : goal.returns
returns c = λ arikan pairs.
    omega (arith, clear_frozen (code c.args.m arikan c.args.map.now pairs) c.count_frozen-frozen.result c.requires.1 c.requires.2 c.count_frozen-frozen.ensures)
