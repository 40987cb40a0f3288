use Rattle.std.proofs.Common.{◌+◌, get_or}
use Rattle.windows.specs.Op.{Wrote}
use Rattle.tables.specs.Cut.{parent}
use Rattle.tables.proofs.cut.cut_row.Given as goal

abbrev pub invariant-loop-r : goal.invariant-loop-r
invariant-loop-r l = Wrote (λ r. get_or l.fn.slots (l.at + parent l.parents r) 0) l.at l.r l.fn.slots l.slots
