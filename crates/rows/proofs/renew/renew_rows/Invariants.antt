use Rattle.rows.specs.PrefixRows.{RowsRenewed}
use Rattle.rows.proofs.renew.renew_rows.Given as goal

abbrev pub invariant-loop-r : goal.invariant-loop-r
invariant-loop-r l = RowsRenewed l.l l.n l.seen l.held l.i l.r l.g l.rows
