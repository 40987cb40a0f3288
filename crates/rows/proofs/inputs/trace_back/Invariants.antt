use Rattle.std.proofs.Common.{◌≤◌}
use Rattle.rows.proofs.ReadBack.{Came}
use Rattle.rows.proofs.inputs.trace_back.Given as goal

abbrev pub invariant-loop-i : goal.invariant-loop-i
invariant-loop-i l = (l.from ≤ l.i) × Came l.l l.p l.r l.history l.fn.row l.row l.i l.base l.rank
