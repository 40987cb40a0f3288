-- What is left to write completes the values.
use Rattle.std.proofs.Common.{◌≡◌, ◌+◌, ◌*◌, drop}
use Rattle.spec.specs.RecordOf.{soft_bytes}
use Rattle.spec.specs.Score.{taken}
use Rattle.place.specs.Put.{Left}
use Rattle.job_parts.proofs.soft.put_soft.Given as goal

abbrev pub invariant-loop-i : goal.invariant-loop-i
invariant-loop-i l = (l.next ≡ l.at + 2 * l.i) × (Left l.at (soft_bytes (taken l.soft)) l.initial.out l.next (soft_bytes (drop l.i (taken l.soft))) l.out)
