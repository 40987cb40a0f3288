use Rattle.positions.proofs.Looping.{Looping}
use Rattle.positions.proofs.block.positions.Given as goal

abbrev pub invariant-loop-i : goal.invariant-loop-i
invariant-loop-i l = Looping l.arikan l.deep l.l l.h l.n l.i l.from l.kept.seen l.kept.held l.map l.pairs l.fn.t l.fn.b l.t l.b l.slots l.s
