use Rattle.std.proofs.Common.{List, ℕ, ◌++◌, ap, arith}
use Rattle.text.specs.Decimal.{as_printed}
use Rattle.text.specs.Words.{refused_word}
use Rattle.place.specs.Put.{then, put_same, whole}
use Rattle.row_text.specs.Output.{refused_text}
use Rattle.row_text.proofs.lines.write_refused.Goals as goal

pub returns : goal.returns
unfolding refused_text
returns c =
    let named = put_same c.put_named-next.ensures.0 (ap (λ (l : List ℕ). refused_word ++ l) (as_printed c.args.k (omega arith))) in
    whole (then named c.put_byte.ensures.0) (omega arith)
