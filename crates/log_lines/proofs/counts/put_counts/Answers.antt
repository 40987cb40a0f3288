use Rattle.std.proofs.Common.{length, ap, arith}
use Rattle.text.specs.Decimal.{as_printed, decimal_32, decimal_length}
use Rattle.place.specs.Put.{then, put_same}
use Rattle.columns.specs.Columns.{right}
use Rattle.log_lines.proofs.counts.put_counts.Goals as goal

pub put_number_right-first-requires : goal.put_number_right-first-requires
put_number_right-first-requires c = (omega (arith, ap length (as_printed c.args.a (omega arith)), decimal_32 c.args.a (omega arith)), omega arith)

pub put_number_right-requires : goal.put_number_right-requires
put_number_right-requires c = (
  omega (arith, ap length (as_printed c.args.b (omega arith)), decimal_length 5 c.args.b (omega arith)),
  omega (arith, c.put_byte-gap.ensures.0.place),
)

pub returns : goal.returns
returns c =
    let first = put_same c.put_number_right-first.ensures.0 (ap (right 10) (as_printed c.args.a (omega arith))) in
    let second = put_same c.put_number_right.ensures.0 (ap (right 6) (as_printed c.args.b (omega arith))) in
    (then (then first c.put_byte-gap.ensures.0) second, omega (arith, c.put_byte-gap.ensures.0.place))
