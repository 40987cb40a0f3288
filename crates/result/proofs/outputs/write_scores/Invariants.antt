-- The scores passed are written, and those behind them are as before.
use Rattle.std.proofs.Common.{◌≡◌, ◌++◌, length, drop}
use Rattle.spec.specs.Record.{fields}
use Rattle.spec.specs.ResultRecord.{scores_from, scores_at}
use Rattle.result.proofs.outputs.write_scores.Given as goal

abbrev pub invariant-loop-i : goal.invariant-loop-i
invariant-loop-i l =
    let b = l.given.bytes.now in
    (length l.scores ≡ length l.fn.scores) × (l.scores ≡ scores_from b (scores_at (fields b)) l.i ++ drop l.i l.fn.scores)
