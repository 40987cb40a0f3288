-- Rows of four positions are one byte each; from eight positions on none is past.
use Rattle.std.proofs.Common.{sym, ◌∙◌, ◌≤◌, length-drop, ne_eqb, arith}
use Rattle.spec.specs.Record.{exponent}
use Rattle.spec.specs.ResultRecord.{row_count, packed_at, packed_part}
use Rattle.laws.specs.PackedRows.{none_past}
use Rattle.result_refusals.proofs.some_past.Goals as goal

pub returns-else-given-eq2 : goal.returns-else-given-eq2
returns-else-given-eq2 c =
    let r = c.args.given in
    let b = r.bytes.now in
    let w = r.laid.shaped in
    let three : 3 ≤ exponent b = omega (arith, w.low, r.laid.m_is, c.if-given-eq2.false) in
    ne_eqb r.at.m 2 c.if-given-eq2.false
    ∙ sym (none_past (exponent b) (row_count b) (packed_part b) three (omega (arith, length-drop (packed_at b) b, w.ends)))
