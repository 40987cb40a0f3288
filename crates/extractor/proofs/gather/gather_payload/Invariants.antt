-- `Gathering` holds at each position.
use Rattle.std.proofs.Common.{length}
use Rattle.laws.specs.MapBits.{flags_of}
use Rattle.extractor.proofs.Turns.{Gathering}
use Rattle.extractor.proofs.gather.gather_payload.Given as goal

abbrev pub invariant-loop-i : goal.invariant-loop-i
invariant-loop-i l = Gathering (length l.input) (flags_of (length l.input) l.map) l.input l.payload (length l.fn.payload) l.j l.i
