-- What is left to look at decides.
use Rattle.std.proofs.Common.{◌≡◌, length, drop}
use Rattle.spec.specs.Code.{Code, broken_from}
use Rattle.laws.specs.MapBits.{flags_of}
use Rattle.laws.specs.PairRuns.{Unsummed}
use Rattle.extractor.proofs.gather.frozen_bit_set.Given as goal

abbrev pub invariant-loop-i : goal.invariant-loop-i
invariant-loop-i l =
    (c : Code) → Unsummed l.from l.to c.pairs → broken_from c l.input l.from (drop l.from (flags_of (length l.input) l.map))
    ≡ broken_from c l.input l.i (drop l.i (flags_of (length l.input) l.map))
