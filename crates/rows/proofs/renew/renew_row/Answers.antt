use Rattle.std.proofs.Common.{arith}
use Rattle.rows.proofs.Renewing.{row_copied, row_read}
use Rattle.rows.proofs.renew.renew_row.Goals as goal

pub returns-then-q-held : goal.returns-then-q-held
returns-then-q-held c =
    let a = c.args in
    let back = c.trace_back-q in
    row_copied a.l a.n a.seen a.held a.i a.past a.kept a.r back.result a.g.now a.row.now back.new.row c.requires.0 back.ensures
    c.if-q-held.true _ (omega arith) c.copy.new.to c.copy.ensures

pub returns : goal.returns
returns c =
    let a = c.args in
    let back = c.trace_back-q in
    row_read a.l a.n a.seen a.held a.i a.past a.kept a.r back.result a.g.now a.row.now back.new.row c.requires.0 back.ensures
    c.trace_back.result c.trace_back.new.row c.trace_back.ensures
