use Rattle.windows.specs.Op.{Wrote}
use Rattle.tables.proofs.walk.own.Given as goal

abbrev pub invariant-loop-r : goal.invariant-loop-r
invariant-loop-r l = Wrote (λ r. r) l.at l.r l.fn.slots l.slots
