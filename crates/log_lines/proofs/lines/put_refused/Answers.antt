use Rattle.std.proofs.Common.{◌≡◌, ℕ, List, ◌+◌, ◌-◌, ◌++◌, length, ap, arith}
use Rattle.text.specs.Decimal.{decimal, as_printed}
use Rattle.text.specs.Words.{refused_word}
use Rattle.place.specs.Put.{then, put_same}
use Rattle.columns.specs.Columns.{spaces, left}
use Rattle.page.specs.Lines.{refused_line}
use Rattle.log_lines.proofs.lines.put_refused.Goals as goal

pub returns : goal.returns
unfolding refused_line left
returns c =
    let text = refused_word ++ decimal c.args.k in
    let named = put_same c.put_named-a.ensures.0 (ap (λ (l : List ℕ). refused_word ++ l) (as_printed c.args.k (omega arith))) in
    let place : c.put_named-a.result ≡ c.args.at + length text = named.place in
    let k : c.args.at + 43 - c.put_named-a.result ≡ 43 - length text = omega arith in
    let filled = put_same c.put_spaces-b.ensures.0 (ap spaces k) in
    (then (then named filled) c.put_byte.ensures.0, omega (arith, c.put_byte.ensures.0.place))
