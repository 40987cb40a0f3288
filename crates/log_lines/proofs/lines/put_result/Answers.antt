use Rattle.std.proofs.Common.{ℕ, ◌++◌, List, length, get_or, pos, ap, w32, arith, rules}
use mir.Val.{SFits}
use Rattle.text.specs.Decimal.{passed_as_printed}
use Rattle.text.specs.Words.{space}
use Rattle.place.specs.Put.{then, put_same}
use Rattle.columns.specs.Columns.{right}
use Rattle.page.specs.Lead.{score_short}
use Rattle.page.specs.Lines.{result_line}
use Rattle.log_lines.proofs.lines.put_result.Goals as goal

pub put_number-b-requires : goal.put_number-b-requires
put_number-b-requires c =
    let y = get_or c.args.scores.now 0 (pos 0) in
    let f : SFits w32 y = search rules in
    (omega (arith, ap length (passed_as_printed y f), score_short y f.sfits), omega arith)

pub returns : goal.returns
unfolding result_line
returns c =
    let y = get_or c.args.scores.now 0 (pos 0) in
    let f : SFits w32 y = search rules in
    let score = put_same c.put_number-b.ensures.0 (ap (λ (l : List ℕ). space ++ right 12 l) (passed_as_printed y f)) in (
      then (then (then c.put_counts-a.ensures.0 score) c.put_lead-c.ensures.0) c.put_byte.ensures.0,
      omega (arith, c.put_byte.ensures.0.place),
    )
