-- So many bytes are there, and so many are needed as far as these tell.
use Rattle.std.proofs.Common.{◌≡◌, ◌-◌, ◌≤◌, length, take}
use Rattle.log_page.specs.Reading.{extent}
use Rattle.shift_log.proofs.take_record.Given as goal

abbrev pub invariant-loop-n : goal.invariant-loop-n
invariant-loop-n l = (length l.input ≡ 4235) × (l.to ≤ 4235) × (l.n ≤ l.to) × (l.to ≡ extent l.records (take l.n l.input))

abbrev pub decreases-loop-n : goal.decreases-loop-n
decreases-loop-n l = 4236 - l.n
