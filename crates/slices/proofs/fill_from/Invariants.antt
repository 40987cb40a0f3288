-- Filling from the loop's place gives what is asked of the whole.
use Rattle.std.proofs.Common.{◌≡◌}
use Rattle.slices.specs.Fill.{filled_from}
use Rattle.slices.proofs.fill_from.Given as goal

abbrev pub invariant-loop-i : goal.invariant-loop-i
invariant-loop-i g l = filled_from l.fn.value l.fn.from l.fn.s ≡ filled_from l.fn.value l.i l.s
