use Rattle.std.proofs.Common.{List, ℕ, ◌++◌, ap, arith}
use Rattle.text.specs.Decimal.{as_printed, passed_as_printed}
use Rattle.place.specs.Put.{then, put_same}
use Rattle.row_text.specs.Output.{frame_word, rows_word, ceiling_word, frame_line}
use Rattle.row_text.proofs.lines.put_frame_line.Goals as goal

pub returns : goal.returns
unfolding frame_line
returns c =
    let a = c.args in
    let frame = put_same c.put_named-a.ensures.0 (ap (λ (l : List ℕ). frame_word ++ l) (as_printed a.frame (omega arith))) in
    let rows = put_same c.put_named-b.ensures.0 (ap (λ (l : List ℕ). rows_word ++ l) (as_printed a.rows (omega arith))) in
    let ceiling = put_same c.put_named-c.ensures.0 (ap (λ (l : List ℕ). ceiling_word ++ l) (passed_as_printed a.ceiling c.ranges.ceiling)) in
    (then (then (then frame rows) ceiling) c.put_byte.ensures.0, omega arith)
