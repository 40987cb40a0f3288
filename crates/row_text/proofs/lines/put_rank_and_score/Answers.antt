use Rattle.std.proofs.Common.{arith}
use Rattle.text.specs.Decimal.{as_printed, passed_as_printed}
use Rattle.place.specs.Put.{then, put_same}
use Rattle.row_text.proofs.lines.put_rank_and_score.Goals as goal

pub returns : goal.returns
returns c =
    let rank = put_same c.put_number-a.ensures.0 (as_printed c.args.rank (omega arith)) in
    let score = put_same c.put_number.ensures.0 (passed_as_printed c.args.score c.ranges.score) in
    (then (then rank c.put_byte-b.ensures.0) score, omega arith)
