use Rattle.std.proofs.Common.{sym, ◌∙◌, arith}
use Rattle.text.specs.BitText.{length_bits}
use Rattle.text.proofs.Turns.{bit_turn, bits_done}
use Rattle.text.proofs.bits.put_bits.Goals as goal

pub loop-i-preserved : goal.loop-i-preserved
loop-i-preserved c =
    let l = c.loop-i in
    l.invariant ∙ bit_turn c.args.at l.i c.bit_byte.result c.args.bits.now l.out c.loop-i-test.true c.bit_byte.ensures

pub returns : goal.returns
returns c =
    let l = c.loop-i in
    let a = c.args in
    (record { place = omega (arith, length_bits a.bits.now); bytes = sym (l.invariant ∙ bits_done a.at l.i a.bits.now l.out c.loop-i-test.false) }, omega arith)
