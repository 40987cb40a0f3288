-- The number of four bits.
use Rattle.std.proofs.Common.{arith, ◌+◌, ◌*◌}
use Rattle.laws.specs.BitLaws.{bits_at}
use Rattle.transform.proofs.ShortWords.{packed_four}
use Rattle.transform.proofs.base.pack.Goals as goal

pub returns : goal.returns
returns c =
    let a = bits_at c.requires.bits c.args.at in
    let b = bits_at c.requires.bits (c.args.at + c.args.d) in
    let e = bits_at c.requires.bits (c.args.at + 2 * c.args.d) in
    let f = bits_at c.requires.bits (c.args.at + 3 * c.args.d) in
    (packed_four c.args.at c.args.d c.args.s.now, omega arith)
