-- The bits passed are drawn.
use Rattle.std.proofs.Common.{◌≡◌, take}
use Rattle.spec.specs.TestLoad.{after_draws, drawn_bits}
use Rattle.draws.proofs.draw_bits.Given as goal

abbrev pub invariant-loop-bit : goal.invariant-loop-bit
invariant-loop-bit l = record {
  state : l.state ≡ after_draws l.bit-index l.s;
  drawn : take l.bit-index l.bits ≡ drawn_bits l.bit-index l.s;
}
