use Rattle.std.proofs.Common.{◌≡◌, ◌+◌, ◌*◌, ◌-◌, get_or, pos, w32, arith, rules}
use mir.Val.{SFits}
use Rattle.std.proofs.lemmas.Int.{to_z-of_z}
use Rattle.place.specs.Put.{less_left, none_left}
use Rattle.row_text.proofs.RowTurns.{one_less, row_turn, row_put, rows_done}
use Rattle.row_text.proofs.listing.put_rows.Goals as goal

pub loop-rank-preserved : goal.loop-rank-preserved
loop-rank-preserved c =
    let a = c.args in
    let l = c.loop-rank in
    let f : SFits w32 (get_or a.scores.now l.rank (pos 0)) = search rules in
    let long : l.from + a.n - l.from ≡ a.n = omega arith in
    let line = row_put a.n a.rows l.rank l.from a.inputs.now a.words.now a.scores.now _ (l.from + a.n - l.from) (to_z-of_z w32 (get_or a.scores.now l.rank (pos 0)) f) long c.put_row-next.ensures.0 in
    record {
      bits = omega (arith, l.invariant.bits, one_less a.rows l.rank a.n c.loop-rank-test.true);
      room = omega (arith, l.invariant.room, one_less a.rows l.rank (2 * a.n + 25) c.loop-rank-test.true);
      lines = less_left l.invariant.lines (row_turn a.n a.rows l.rank l.from a.inputs.now a.words.now a.scores.now c.loop-rank-test.true) line;
    }

pub returns : goal.returns
returns c =
    let a = c.args in
    let l = c.loop-rank in
    (none_left l.invariant.lines (rows_done a.n a.rows l.rank l.from a.inputs.now a.words.now a.scores.now c.loop-rank-test.false), omega (arith, l.invariant.room))
