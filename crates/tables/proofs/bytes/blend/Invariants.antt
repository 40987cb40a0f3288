use Rattle.windows.specs.Op.{Wrote}
use Rattle.tables.specs.Tab.{mix}
use Rattle.tables.proofs.bytes.blend.Given as goal

abbrev pub invariant-loop-i : goal.invariant-loop-i
invariant-loop-i l = Wrote (mix l.arikan l.fn.b l.p l.q) l.to l.i l.fn.b l.b
