use Rattle.tables.specs.Walk.{Reached}
use Rattle.tables.proofs.phase.reach.Given as goal

abbrev pub invariant-loop-e : goal.invariant-loop-e
invariant-loop-e l = Reached l.n l.deep l.e l.w l.x l.size
