use Rattle.std.proofs.Common.{ap, w32, arith}
use Rattle.std.proofs.lemmas.Int.{to_z-of_z}
use Rattle.row_text.specs.Output.{frame_line, row_lines, output_of}
use Rattle.place.specs.Put.{then, put_same, whole}
use Rattle.row_text.proofs.listing.write_rows.Goals as goal

pub returns : goal.returns
unfolding output_of
returns c =
    let a = c.args in
    let same = ap (frame_line a.frame a.rows) (to_z-of_z w32 a.ceiling c.ranges.ceiling) in
    whole (then (put_same c.put_frame_line-next.ensures.0 same) {ys = row_lines a.n 0 a.rows a.inputs.now a.words.now a.scores.now} c.put_rows.ensures.0) (omega arith)
