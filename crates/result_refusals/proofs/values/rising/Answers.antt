-- The closure gives the scores of the record.
use Rattle.std.proofs.Common.{sym, ◌∙◌, rules}
use Rattle.spec.specs.Record.{fields}
use Rattle.spec.specs.ResultRecord.{scores_at, row_count, result_scores}
use Rattle.laws.specs.ResultReading.{length_scores_from}
use Rattle.result_refusals.proofs.values.rising.Goals as goal

pub returns : goal.returns
returns c =
    let b = c.args.given.bytes.now in
    c.scores_rise.ensures (result_scores b) (length_scores_from b (scores_at (fields b)) (row_count b) ∙ sym c.args.given.laid.rows_are)
    (λ i y h p. search rules)
