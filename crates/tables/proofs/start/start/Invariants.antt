use Rattle.spec.specs.Score.{taken}
use Rattle.tables.proofs.Starting.{Starting}
use Rattle.tables.proofs.start.start.Given as goal

abbrev pub invariant-loop-d : goal.invariant-loop-d
invariant-loop-d l = Starting l.arikan l.deep l.l l.h l.d (taken l.soft) l.fn.t l.t
