use Rattle.std.proofs.Common.{◌%◌, get_or}
use Rattle.windows.specs.Op.{Wrote}
use Rattle.tables.proofs.top.top_bits.Given as goal

abbrev pub invariant-loop-r : goal.invariant-loop-r
invariant-loop-r l = Wrote (λ r. get_or l.bits r 0 % 2) l.at l.r l.fn.b l.b
