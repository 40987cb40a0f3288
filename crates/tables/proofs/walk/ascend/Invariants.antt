use Rattle.tables.proofs.Rises.{Climbing}
use Rattle.tables.proofs.walk.ascend.Given as goal

abbrev pub invariant-loop-d : goal.invariant-loop-d
invariant-loop-d l = Climbing l.shape.arikan l.shape.deep l.shape.l l.shape.h l.shape.count l.n l.fn.end.e l.fn.t l.b l.fn.slots l.d l.v l.p l.s l.t l.slots
