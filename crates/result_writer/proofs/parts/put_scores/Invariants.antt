-- Writing what is left completes the scores.
use Rattle.std.proofs.Common.{◌+◌, ◌*◌, ◌≤◌, drop}
use Rattle.spec.specs.ResultWriter.{score_bytes}
use Rattle.place.specs.Put.{Left}
use Rattle.result_writer.proofs.parts.put_scores.Given as goal

abbrev pub invariant-loop-y : goal.invariant-loop-y
invariant-loop-y l =
    (l.next ≤ l.at + 4 * l.y-index) × Left l.at (score_bytes l.scores) l.fn.out l.next (score_bytes (drop l.y-index l.scores)) l.out
