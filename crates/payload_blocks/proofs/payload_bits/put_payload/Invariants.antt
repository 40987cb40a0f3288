-- The bits from the loop's place on are written, and those before it are the bits of the rest.
use Rattle.payload_blocks.proofs.Turns.{Halving}
use Rattle.payload_blocks.proofs.payload_bits.put_payload.Given as goal

abbrev pub invariant-loop-i : goal.invariant-loop-i
invariant-loop-i l = Halving l.fn.payload l.q l.payload l.i l.rest
