use Rattle.std.proofs.Common.{◌+◌, ◌*◌, ◌≤◌, ◌∙◌, length, arith}
use Rattle.rows.proofs.Filling.{row_inside, row_long}
use Rattle.rows.proofs.Renewing.{renewing_more}
use Rattle.rows.proofs.renew.renew_rows.Goals as goal

pub loop-r-preserved : goal.loop-r-preserved
loop-r-preserved c =
    let a = c.args in
    let N = length a.rows.now in
    let r = c.loop-r.r in
    let inside : a.n * r + a.n ≤ N = row_inside a.n N a.count a.count r (omega arith) c.requires.2 c.loop-r-test.true in
    renewing_more a.l a.n a.seen a.held a.i r _ a.g.now c.loop-r.rows c.renew_row.new.row c.requires.0.stop (omega arith) c.loop-r.invariant (omega arith)
    (c.renew_row.auto.row ∙ row_long a.n N a.count a.count r _ c.loop-r.rows (omega arith) (omega arith) c.requires.2 c.loop-r-test.true (omega arith))
    c.renew_row.ensures
