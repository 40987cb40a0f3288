-- The values of the pairs passed are written, and those behind them are as before.
use Rattle.std.proofs.Common.{◌≡◌, ◌++◌, ◌*◌, drop}
use Rattle.spec.specs.Samples.{soft_pairs}
use Rattle.quantise.proofs.samples.write_pairs.Given as goal

abbrev pub invariant-loop-j : goal.invariant-loop-j
invariant-loop-j l = l.soft ≡ soft_pairs l.bytes 0 l.j ++ drop (2 * l.j) l.fn.soft
