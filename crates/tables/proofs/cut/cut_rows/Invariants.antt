use Rattle.tables.specs.Cut.{CutRows}
use Rattle.tables.proofs.cut.cut_rows.Given as goal

abbrev pub invariant-loop-d : goal.invariant-loop-d
invariant-loop-d l = CutRows l.from l.d l.count l.parents l.fn.slots l.slots
