-- No more are counted than were looked at.
use Rattle.std.proofs.Common.{◌≤◌}
use Rattle.decode_records.proofs.left.count_left.Given as goal

abbrev pub invariant-loop-x : goal.invariant-loop-x
invariant-loop-x g l = l.count ≤ l.x-index
