use Rattle.std.proofs.Common.{length}
use Rattle.rows.specs.Scores.{ScoresWritten}
use Rattle.rows.proofs.scores.write_scores.Given as goal

abbrev pub invariant-loop-r : goal.invariant-loop-r
invariant-loop-r l = ScoresWritten l.total l.r (length l.fn.scores) l.costs l.scores
