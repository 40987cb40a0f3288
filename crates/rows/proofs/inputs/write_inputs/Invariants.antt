-- The first r rows are there, and 0 behind them.
use Rattle.std.proofs.Common.{length}
use Rattle.rows.proofs.Filling.{Filling}
use Rattle.rows.proofs.InputRows.{input_rows}
use Rattle.rows.proofs.inputs.write_inputs.Given as goal

abbrev pub invariant-loop-r : goal.invariant-loop-r
invariant-loop-r l = Filling l.n l.r (length l.fn.inputs) (input_rows l.l l.p l.n l.history l.r) l.inputs
