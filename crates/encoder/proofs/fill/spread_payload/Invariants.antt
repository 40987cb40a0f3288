-- `Spreading` holds at each position.
use Rattle.std.proofs.Common.{length}
use Rattle.laws.specs.MapBits.{flags_of}
use Rattle.encoder.proofs.Turns.{Spreading}
use Rattle.encoder.proofs.fill.spread_payload.Given as goal

abbrev pub invariant-loop-i : goal.invariant-loop-i
invariant-loop-i l = Spreading (length l.fn.input) (flags_of (length l.fn.input) l.map) l.payload l.input l.j l.i
