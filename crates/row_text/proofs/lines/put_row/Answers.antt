use Rattle.std.proofs.Common.{◌++◌, ℤ, ap, w32, arith}
use Rattle.std.proofs.lemmas.Int.{to_z-of_z}
use Rattle.text.specs.Decimal.{decimal, signed_decimal}
use Rattle.text.specs.Words.{space}
use Rattle.place.specs.Put.{then, put_same}
use Rattle.row_text.specs.Output.{row_line}
use Rattle.row_text.proofs.lines.put_row.Goals as goal

pub returns : goal.returns
unfolding row_line
returns c =
    let same = ap (λ (z : ℤ). decimal c.args.rank ++ space ++ signed_decimal z) (to_z-of_z w32 c.args.score c.ranges.score) in
    (then (then (put_same c.put_rank_and_score-a.ensures.0 same) c.put_words-b.ensures.0) c.put_byte.ensures.0, omega arith)
