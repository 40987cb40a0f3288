-- `Summing` holds at each run of pairs.
use Rattle.std.proofs.Common.{◌-◌, length}
use Rattle.encoder.proofs.Turns.{Summing}
use Rattle.encoder.proofs.fill.fill_input.Given as goal

abbrev pub invariant-loop-at : goal.invariant-loop-at
invariant-loop-at l = Summing l.map l.pairs l.payload (length l.fn.input) l.input l.at

abbrev pub decreases-loop-at : goal.decreases-loop-at
decreases-loop-at l = length l.pairs - l.at
