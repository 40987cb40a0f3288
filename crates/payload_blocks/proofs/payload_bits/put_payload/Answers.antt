-- One bit more, and all.
use Rattle.std.proofs.Common.{arith}
use Rattle.payload_blocks.proofs.Turns.{halving_turn, halving_done}
use Rattle.payload_blocks.proofs.payload_bits.put_payload.Goals as goal

pub loop-i-preserved : goal.loop-i-preserved
loop-i-preserved c = halving_turn c.loop-i.invariant c.loop-i-test.true

pub returns : goal.returns
returns c = halving_done c.loop-i.invariant (omega arith)
