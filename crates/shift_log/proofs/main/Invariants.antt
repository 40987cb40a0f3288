-- Both arrays keep their lengths, and each turn but the last reads a record more, of at most 1,000.
use Rattle.std.proofs.Common.{◌≡◌, ◌-◌, length}
use Rattle.log_page.specs.Counts.{Within}
use Rattle.shift_log.proofs.main.Given as goal

abbrev pub invariant-loop-input : goal.invariant-loop-input
invariant-loop-input l = (length l.input ≡ 4235) × (length l.out ≡ 88) × Within l.totals.records l.totals.rows

abbrev pub decreases-loop-input : goal.decreases-loop-input
decreases-loop-input l = 1001 - l.totals.records
