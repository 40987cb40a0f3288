-- What was found so far, or the values that are left, decide.
use Rattle.std.proofs.Common.{◌≡◌, ◌||◌, drop}
use Rattle.spec.specs.Faults.{some}
use Rattle.spec.specs.Refusals.{out_of_range}
use Rattle.spec.specs.Record.{record_soft}
use Rattle.job_refusals.proofs.some_out_of_range.Given as goal

abbrev pub invariant-loop-i : goal.invariant-loop-i
invariant-loop-i l =
    let y = record_soft l.job.bytes.now in
    some out_of_range y ≡ (l.outside || some out_of_range (drop l.i y))
