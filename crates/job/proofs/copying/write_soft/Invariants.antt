-- The values passed are written, and those behind them are as before.
use Rattle.std.proofs.Common.{◌≡◌, ◌++◌, take, drop}
use Rattle.spec.specs.Score.{taken}
use Rattle.spec.specs.Record.{record_soft}
use Rattle.job.proofs.copying.write_soft.Given as goal

abbrev pub invariant-loop-i : goal.invariant-loop-i
invariant-loop-i l = l.soft ≡ taken (take l.i (record_soft l.job.bytes.now)) ++ drop l.i l.initial.soft
